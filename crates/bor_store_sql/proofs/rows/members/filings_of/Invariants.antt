use Rattle.std.proofs.Common.{◌≡◌, ℕ, List, map, drop}
use Rattle.bor_register.specs.declared.filing.AcceptedFiling.{AcceptedFiling}
use Rattle.bor_store_sql.specs.Rows.Placed.{filing_row, placed_by}
use Rattle.bor_store_sql.specs.Rows.Stored.{AreNumbered}
use Rattle.bor_store_sql.proofs.OnRows.Rebuilt.{FilingsLeft}
use Rattle.bor_store_sql.proofs.rows.members.filings_of.Given as goal

-- the rows that are left are those of the filings that are left
abbrev pub invariant-loop-filing : goal.invariant-loop-filing
invariant-loop-filing l =
    (agent : List ℕ) (fs : List AcceptedFiling) → AreNumbered 1 fs → l.filings ≡ map (filing_row agent) fs → l.statements ≡ placed_by agent fs
    → FilingsLeft agent fs l.own.items (drop l.filing-index l.filings) l.statements_left
