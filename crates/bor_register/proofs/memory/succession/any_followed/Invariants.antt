use Rattle.std.proofs.Common.{◌≡◌, ◌+◌, drop}
use Rattle.std.specs.List.{list_any}
use Rattle.bor_register.proofs.OnMemory.Succeeded.{is_shared}
use Rattle.bor_register.proofs.memory.succession.any_followed.Given as goal

-- what is left gives what all give
abbrev pub invariant-loop-statement : goal.invariant-loop-statement
invariant-loop-statement l = list_any (is_shared (drop (l.at + 1) l.filings)) (drop l.statement-index l.filing.statements) ≡ list_any (is_shared (drop (l.at + 1) l.filings)) l.filing.statements
