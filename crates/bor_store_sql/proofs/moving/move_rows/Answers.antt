use Rattle.std.proofs.Common.{[], map}
use Rattle.sqlite.specs.Effect.{Database}
use Rattle.bor_store_sql.specs.Rows.Encoding.{Contents, period_columns}
use Rattle.bor_store_sql.specs.Moving.{MakesPeriod, PutsPeriods, SetsVersion, MovesRows}
use Rattle.bor_store_sql.specs.Shown.{Has, HasFirst}
use Rattle.bor_store_sql.proofs.Moves.{both_move, fails, state, then_fails}
use Rattle.bor_store_sql.proofs.moving.move_rows.Goals as goal

pub returns-clause-moves : goal.returns-clause-moves
returns-clause-moves g c =
    let s0 = state g.S.Store c.args.tx.now.conn.now in
    let s1 = state g.S.Store c.create_period.new.tx.conn.now in
    let s2 = state g.S.Store c.put_rows.new.tx.conn.now in
    let s3 = state g.S.Store c.set_version.new.tx.conn.now in
    let ps = c.args.periods.now in
    let filled : Database → Database → Type 0 = λ old new. (t : Contents) → HasFirst t old → Has (record t { periods = map period_columns ps }) new in
    let both = both_move MakesPeriod (PutsPeriods ps) filled s0 s1 s2 _ (λ makes puts t has. puts (record t { periods = [] }) (makes t has)) c.in_ok-create_period.ensures.moves c.in_ok-put_rows.ensures.moves in
    both_move filled SetsVersion (MovesRows ps) s0 s2 s3 c.set_version.result (λ fills sets t one has. sets (record t { periods = map period_columns ps }) one (fills t has)) both c.set_version.ensures.moves

pub returns-in_err-create_period-clause-moves : goal.returns-in_err-create_period-clause-moves
returns-in_err-create_period-clause-moves g c = fails c.from_residual.ensures.0 c.in_err-create_period.ensures.moves

pub returns-in_err-put_rows-clause-moves : goal.returns-in_err-put_rows-clause-moves
returns-in_err-put_rows-clause-moves g c = then_fails c.from_residual-in_err-put_rows.ensures.0 c.in_ok-create_period.ensures.moves c.in_err-put_rows.ensures.moves
