use Rattle.std.proofs.Common.{take}
use Rattle.bor_desk.specs.Mentioned.{IsGained, IsOfAny, IsOfLink, nodes_in}
use Rattle.bor_desk.proofs.evidence.keys.add_links.Given as goal

-- those so far are added
abbrev pub invariant-loop-line : goal.invariant-loop-line
invariant-loop-line l = IsGained (IsOfAny (take l.line-index l.links) IsOfLink) (nodes_in l.initial.keys) (nodes_in l.keys)
