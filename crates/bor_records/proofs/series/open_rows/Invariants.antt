use Rattle.std.proofs.Common.{◌≡◌, ◌≤◌, drop, map, reverse, length}
use Rattle.std.specs.BTreeSet.{contains}
use Rattle.bor_records.specs.declared.series.Series.{Series}
use Rattle.bor_records.specs.OpenRows.{open_rows}
use Rattle.bor_records.specs.Seen.{series_cmp, has_dated}
use Rattle.bor_records.proofs.series.open_rows.Given as goal

-- the series and the open rows from `next` on
abbrev pub invariant-loop-next : goal.invariant-loop-next
invariant-loop-next l = record {
  within : l.next ≤ length l.rows;
  seen : (series : Series) → contains series_cmp l.seen series ≡ has_dated l.day series (drop l.next l.rows);
  latest : reverse (map (λ x. x.now) l.latest.items) ≡ open_rows l.day (drop l.next l.rows);
}

abbrev pub decreases-loop-next : goal.decreases-loop-next
decreases-loop-next l = l.next
