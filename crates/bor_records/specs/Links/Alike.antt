-- Nodes that stand for one entity, while they are looked for sign by sign; for clauses of private
-- functions alone.
use Rattle.std.specs.Prelude.{◌≡◌, ◌⊎◌, ◌++◌, true, Bool, List, Contains, IsTrue, Some}
use Rattle.bor_records.specs.declared.row.Row.{Row}
use Rattle.bor_records.specs.declared.links.node.Node.{Node}
use Rattle.bor_records.specs.declared.links.node.OpenNode.{OpenNode}
use Rattle.bor_records.specs.declared.links.sign.Sign.{Sign}
use Rattle.bor_records.specs.Links.Rows.{node_in}
use Rattle.bor_records.specs.Links.Series.{series_of}
use Rattle.bor_records.specs.Links.Shown.{Shown, is_entity}
use Rattle.bor_records.specs.Links.Signs.{signs, signs_in}

-- among the nodes is the record of each row of an entity that has the sign
abbrev pub CoverSign : List Row → Sign → List Node → Type 0
CoverSign rows k nodes =
    (row : Row) (x : OpenNode) → Contains rows row → node_in row ≡ Some x
    → IsTrue (is_entity x.info) → Contains (signs x) k → Contains nodes (series_of row)

-- Open entities are added, of which each has one of these signs. Of each of the signs, and of each
-- that is noted as looked up, all that have it are there, unless it was noted before.
pub record Expands (s : Shown) (ks : List Sign) (old new : List Node)
    (was now : Sign → Bool) : Type 0 where
  pub rest : List Node
  pub begins : new ≡ old ++ rest
  pub signed : (n : Node) → Contains rest n → (k : Sign) × Contains ks k × Contains (signs_in s n) k
  pub looked : (k : Sign) → Contains ks k
      → (was k ≡ true) ⊎ ((n : Node) → Contains (signs_in s n) k → Contains new n)
  pub noted : (k : Sign) → now k ≡ true
      → (was k ≡ true) ⊎ ((n : Node) → Contains (signs_in s n) k → Contains new n)
