-- How much a register holds.
use Rattle.std.specs.Prelude.{ℕ, List, length}
use Rattle.std.specs.List.{sum_by}
use Rattle.bor_register.specs.declared.filing.AcceptedFiling.{AcceptedFiling}
use Rattle.bor_register.specs.declared.member.Member.{Member}

-- the statements of these filings; a withdrawn one has none
abbrev pub statement_total : List AcceptedFiling → ℕ
statement_total fs = sum_by (λ f. length f.statements) fs

-- the live statements of a register's agents
abbrev pub statement_count : List Member → ℕ
statement_count ms = sum_by (λ m. statement_total m.filings) ms
