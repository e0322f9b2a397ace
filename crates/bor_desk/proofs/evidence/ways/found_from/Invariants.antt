use Rattle.std.specs.Prelude.{IsSome}
use Rattle.std.specs.BTreeMap.{get}
use Rattle.bor_records.specs.declared.links.node.Node.{Node}
use Rattle.bor_records.specs.Links.Nodes.{node_cmp}
use Rattle.bor_records.specs.Links.Shown.{Shown}
use Rattle.bor_desk.specs.Kin.{IsKinOf}
use Rattle.bor_desk.specs.Ways.{AreFoundFrom, AreOfClass}
use Rattle.bor_desk.proofs.evidence.ways.found_from.Given as goal

-- what the first of the level lead to
abbrev pub invariant-loop-node : goal.invariant-loop-node
invariant-loop-node l =
    (s : Shown) (target : Node) → AreOfClass s target l.level (λ x. get node_cmp l.initial.after x) → IsKinOf s target (λ x. IsSome (get node_cmp l.initial.after x)) l.initial.kin
    → AreFoundFrom s l.level l.node-index (λ x. get node_cmp l.initial.after x) (λ x. get node_cmp l.after x) l.found.items × IsKinOf s target (λ x. IsSome (get node_cmp l.after x)) l.kin
