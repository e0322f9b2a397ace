use Rattle.std.proofs.Common.{◌≡◌, ◌<◌, ◌^◌, ◌++◌, take, flat_map}
use Rattle.bor_store_sql.specs.Rows.Placed.{interests_from, period_rows}
use Rattle.bor_store.proofs.days.add_statement.Given as goal

-- those so far are added
abbrev pub invariant-loop-interest : goal.invariant-loop-interest
invariant-loop-interest l =
    (l.item ≡ l.interest-index) × (l.item < 2 ^ 32)
    × (l.rows.items ≡ l.fn.rows.items ++ flat_map period_rows (interests_from (record { agent = l.agent; filing = l.filing; place = l.place }) 1 (take l.interest-index l.interest-items)))
