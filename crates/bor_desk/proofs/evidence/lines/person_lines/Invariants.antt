use Rattle.std.proofs.Common.{◌≡◌, map}
use Rattle.bor_desk.specs.Evidence.{person_evidence}
use Rattle.bor_desk.proofs.evidence.lines.person_lines.Given as goal

abbrev pub invariant-loop-person : goal.invariant-loop-person
invariant-loop-person l = l.lines.items ≡ map person_evidence l.yielded
