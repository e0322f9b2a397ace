use Rattle.std.proofs.Common.{◌≡◌, ◌<◌, ◌^◌, ◌++◌, take}
use Rattle.bor_store_sql.specs.Rows.Placed.{placed_from}
use Rattle.bor_store.specs.Migrating.{interest_days}
use Rattle.bor_store.proofs.days.add_days.Given as goal

-- those so far are added
abbrev pub invariant-loop-statement : goal.invariant-loop-statement
invariant-loop-statement l =
    (l.place ≡ l.statement-index) × (l.place < 2 ^ 32)
    × (l.rows.items ≡ l.fn.rows.items ++ interest_days (placed_from l.agent l.filing 1 (take l.statement-index l.statements)))
