use Rattle.std.proofs.Common.{◌≡◌, take}
use Rattle.bor_desk.specs.Mentioned.{IsGained, IsOfAny, nodes_in}
use Rattle.bor_desk.proofs.evidence.keys.add_persons.Given as goal

-- those so far are added
abbrev pub invariant-loop-person : goal.invariant-loop-person
invariant-loop-person l = IsGained (IsOfAny (take l.person-index l.persons) (λ person n. n ≡ person.node)) (nodes_in l.initial.keys) (nodes_in l.keys)
