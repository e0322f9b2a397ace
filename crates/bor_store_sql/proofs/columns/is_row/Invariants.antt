use Rattle.std.proofs.Common.{◌≡◌, ◌<◌, ℕ}
use Rattle.sqlite.specs.Order.{column}
use Rattle.sqlite.specs.Values.{bound}
use Rattle.bor_store_sql.proofs.columns.is_row.Given as goal

-- the columns so far have these values
abbrev pub invariant-loop-at : goal.invariant-loop-at
invariant-loop-at l = (k : ℕ) → k < l.at → column l.row k ≡ column (bound l.values) k
