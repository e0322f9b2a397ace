use Rattle.std.proofs.Common.{◌≡◌, false, take, None}
use Rattle.std.specs.List.{last_or, list_any}
use Rattle.sqlite.specs.Held.{state}
use Rattle.bor_register.specs.Register.{Register}
use Rattle.bor_store_sql.specs.Rows.Seen.{is_later}
use Rattle.bor_store_sql.specs.Found.{ReadsOnly}
use Rattle.bor_store_sql.specs.Shown.{IsClean, ShowsIn, StaysUp}
use Rattle.bor_store_sql.specs.Selected.{in_series, placed_of}
use Rattle.bor_store_reads.proofs.successors.any_followed.Given as goal

-- none so far, and what is shown is as it was
abbrev pub invariant-loop-row : goal.invariant-loop-row
invariant-loop-row g l = record {
  reads : ReadsOnly (state g.S.Store l.fn.conn) (state g.S.Store l.conn);
  up : StaysUp (state g.S.Store l.fn.conn) (state g.S.Store l.conn);
  none : IsClean (state g.S.Store l.conn) → (r : Register) → ShowsIn r (state g.S.Store l.fn.conn)
      → list_any (λ row. is_later l.number (last_or None (in_series row.declaration row.rec (placed_of l.agent r)))) (take l.row-index l.rows) ≡ false;
}
