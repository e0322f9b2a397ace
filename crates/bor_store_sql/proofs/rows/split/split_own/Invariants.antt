use Rattle.std.proofs.Common.{◌≡◌, Bool, true, take}
use Rattle.std.specs.Fn.{FnReturnsAt}
use Rattle.std.specs.List.{AllByRecursion}
use Rattle.bor_store_sql.proofs.rows.split.split_own.Given as goal

-- the rows so far pass
abbrev pub invariant-loop-count : goal.invariant-loop-count
invariant-loop-count g l = (own : g.row.T.Denot → Bool) → ((x : g.row.T.Denot) (r : Bool) → FnReturnsAt g.P.Fn l.is_own x r → r ≡ own x) → AllByRecursion (λ x. own x ≡ true) (take l.count l.rows)
