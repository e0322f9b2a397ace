use Rattle.std.specs.BTreeMap.{get}
use Rattle.bor_records.specs.Links.Nodes.{node_cmp}
use Rattle.bor_desk.specs.Ways.{AreAdded}
use Rattle.bor_desk.proofs.evidence.ways.add_new.Given as goal

-- the aliases so far
abbrev pub invariant-loop-alias : goal.invariant-loop-alias
invariant-loop-alias l = AreAdded l.node l.yielded (λ x. get node_cmp l.initial.after x) (λ x. get node_cmp l.after x) l.initial.found.items l.found.items
