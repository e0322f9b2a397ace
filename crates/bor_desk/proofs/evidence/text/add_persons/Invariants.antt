use Rattle.std.proofs.Common.{◌≡◌, ◌++◌, drop, string_bytes}
use Rattle.bor_desk.specs.ChainReport.{evidenced_lines}
use Rattle.bor_desk.proofs.evidence.text.add_persons.Given as goal

-- what is there and what is left give what all give
abbrev pub invariant-loop-person : goal.invariant-loop-person
invariant-loop-person l = string_bytes l.text ++ evidenced_lines (drop l.person-index l.persons) ≡ string_bytes l.fn.text ++ evidenced_lines l.persons
