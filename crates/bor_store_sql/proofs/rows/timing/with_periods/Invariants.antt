use Rattle.std.proofs.Common.{◌≡◌, List, map, length, flat_map}
use Rattle.std.specs.Vec.Iter.{into_iter_items, into_iter_len}
use Rattle.bor_store_sql.specs.declared.rows.typed.InterestRow.{InterestRow}
use Rattle.bor_store_sql.specs.Rows.Placed.{AreSeveral, interest_line, period_rows}
use Rattle.bor_store_sql.proofs.OnRows.Timings.{Left}
use Rattle.bor_store_sql.proofs.rows.timing.with_periods.Given as goal

-- the rest of the rows are those of the interests that are left
abbrev pub invariant-loop-line : goal.invariant-loop-line
invariant-loop-line l =
    (into_iter_len l.line-iterator ≡ length (into_iter_items l.line-iterator))
    × ((is : List InterestRow) → AreSeveral is → l.fn.lines.items ≡ map interest_line is → l.periods_sorted ≡ flat_map period_rows is → Left is l.rows.items (into_iter_items l.line-iterator) l.left)
