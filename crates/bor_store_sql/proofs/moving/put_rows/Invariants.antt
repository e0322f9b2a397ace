use Rattle.std.proofs.Common.{◌≡◌, Ok, take}
use Rattle.sqlite.specs.Held.{state}
use Rattle.bor_store_sql.specs.Moving.{PutsPeriods}
use Rattle.bor_store_sql.specs.Ran.{MovesTo}
use Rattle.bor_store_sql.proofs.moving.put_rows.Given as goal

-- the rows so far are inserted
abbrev pub invariant-loop-period : goal.invariant-loop-period
invariant-loop-period g l =
    (l.tx.conn.ghost_name ≡ l.fn.tx.conn.ghost_name)
    × MovesTo (PutsPeriods (take l.period-index l.periods)) (state g.S.Store l.fn.tx.conn.now) (state g.S.Store l.tx.conn.now) (Ok (tt {0}))
