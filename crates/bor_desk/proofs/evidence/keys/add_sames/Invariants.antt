use Rattle.std.proofs.Common.{Contains, take}
use Rattle.bor_desk.specs.Mentioned.{IsGained, IsOfAny, nodes_in}
use Rattle.bor_desk.proofs.evidence.keys.add_sames.Given as goal

-- those so far are added
abbrev pub invariant-loop-line : goal.invariant-loop-line
invariant-loop-line l = IsGained (IsOfAny (take l.line-index l.links) (λ line n. Contains line.same n)) (nodes_in l.initial.keys) (nodes_in l.keys)
