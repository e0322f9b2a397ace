use Rattle.std.proofs.Common.{◌≡◌, ◌++◌, drop, string_bytes}
use Rattle.bor_desk.specs.ChainReport.{person_lines}
use Rattle.bor_desk.proofs.report.add_persons.Given as goal

-- what is there and what is left give what all give
abbrev pub invariant-loop-person : goal.invariant-loop-person
invariant-loop-person l = string_bytes l.text ++ person_lines (drop l.person-index l.persons) ≡ string_bytes l.fn.text ++ person_lines l.persons
