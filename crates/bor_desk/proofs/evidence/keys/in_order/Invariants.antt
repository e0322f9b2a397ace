use Rattle.std.proofs.Common.{◌↔◌, Contains}
use Rattle.bor_records.specs.declared.links.node.Node.{Node}
use Rattle.bor_desk.specs.Mentioned.{nodes_in}
use Rattle.bor_desk.proofs.evidence.keys.in_order.Given as goal

-- those so far are added
abbrev pub invariant-loop-node : goal.invariant-loop-node
invariant-loop-node l = (n : Node) → Contains (nodes_in l.keys) n ↔ Contains l.yielded n
