use Rattle.std.proofs.Common.{◌⊎◌, ◌≡◌, Contains, vec_len}
use Rattle.std.proofs.lemmas.Map.Lookups.{CmpEqualImpliesEq}
use Rattle.bor_records.specs.declared.links.node.Node.{Node}
use Rattle.bor_records.specs.Links.Values.{under}
use Rattle.bor_records.proofs.links.values.note.Given as goal

-- the node stands under each key that isn't left
abbrev pub invariant-loop-key : goal.invariant-loop-key
invariant-loop-key g l = record {
  left : (k : g.row.K.Denot) → Contains l.keys.items k → Contains l.fn.keys.items k;
  stays : CmpEqualImpliesEq g.K.Ord.cmp → (k : g.row.K.Denot) (m : Node) → Contains (under g.K.Ord.cmp l.initial.map k) m → Contains (under g.K.Ord.cmp l.map k) m;
  there : CmpEqualImpliesEq g.K.Ord.cmp → (k : g.row.K.Denot) → Contains l.fn.keys.items k → Contains l.keys.items k ⊎ Contains (under g.K.Ord.cmp l.map k) l.node;
  only : CmpEqualImpliesEq g.K.Ord.cmp → (k : g.row.K.Denot) (m : Node) → Contains (under g.K.Ord.cmp l.map k) m → Contains (under g.K.Ord.cmp l.initial.map k) m ⊎ (Contains l.fn.keys.items k × (m ≡ l.node));
}

abbrev pub decreases-loop-key : goal.decreases-loop-key
decreases-loop-key g l = vec_len l.keys
