use Rattle.std.proofs.Common.{Contains, take}
use Rattle.bor_desk.specs.Mentioned.{IsGained, nodes_in}
use Rattle.bor_desk.proofs.evidence.keys.add_all.Given as goal

-- those so far are added
abbrev pub invariant-loop-node : goal.invariant-loop-node
invariant-loop-node l = IsGained (λ n. Contains (take l.node-index l.nodes) n) (nodes_in l.initial.keys) (nodes_in l.keys)
