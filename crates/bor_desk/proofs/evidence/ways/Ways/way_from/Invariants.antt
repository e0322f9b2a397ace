use Rattle.std.proofs.Common.{◌-◌, ◌^◌, vec_len}
use Rattle.std.specs.Prelude.{IsSome}
use Rattle.std.specs.BTreeMap.{get}
use Rattle.bor_records.specs.declared.links.node.Node.{Node}
use Rattle.bor_records.specs.Links.Nodes.{node_cmp}
use Rattle.bor_records.specs.Links.Shown.{Shown}
use Rattle.bor_desk.specs.Ways.{AreWaysTo}
use Rattle.bor_desk.proofs.OnEvidence.Ways.{IsOnWay}
use Rattle.bor_desk.proofs.evidence.ways.Ways.way_from.Given as goal

-- what is read off so far is the beginning of the least way
abbrev pub invariant-loop-next : goal.invariant-loop-next
invariant-loop-next l =
    (s : Shown) (target : Node) → AreWaysTo s target l.self → IsSome (get node_cmp l.self.after l.node) → IsOnWay s target l.node l.at l.way.items × IsSome (get node_cmp l.self.after l.at)

-- a list in memory has fewer than 2 ^ 64 elements
abbrev pub decreases-loop-next : goal.decreases-loop-next
decreases-loop-next l = 2 ^ 64 - vec_len l.way
