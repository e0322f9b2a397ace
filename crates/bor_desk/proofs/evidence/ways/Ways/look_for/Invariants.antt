use Rattle.std.proofs.Common.{◌-◌, ◌^◌, vec_len}
use Rattle.std.specs.Prelude.{IsSome}
use Rattle.std.specs.BTreeMap.{get}
use Rattle.bor_records.specs.declared.links.node.Node.{Node}
use Rattle.bor_records.specs.Links.Nodes.{node_cmp}
use Rattle.bor_records.specs.Links.Shown.{Shown}
use Rattle.bor_desk.specs.Kin.{IsKinOf}
use Rattle.bor_desk.specs.Ways.{AreWaysTo}
use Rattle.bor_desk.proofs.evidence.ways.Ways.look_for.Given as goal

-- the ways to each goal stay ways to it
abbrev pub invariant-loop-self : goal.invariant-loop-self
invariant-loop-self g l =
    (s : Shown) (target : Node) → AreWaysTo s target l.initial.self → IsKinOf s target (λ x. IsSome (get node_cmp l.initial.self.after x)) l.initial.kin → AreWaysTo s target l.self × IsKinOf s target (λ x. IsSome (get node_cmp l.self.after x)) l.kin

-- a list in memory has fewer than 2 ^ 64 elements
abbrev pub decreases-loop-self : goal.decreases-loop-self
decreases-loop-self g l = 2 ^ 64 - vec_len l.self.levels
