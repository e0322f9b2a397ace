use Rattle.std.proofs.Common.{◌+◌, [], ◌∷◌, take, ◌∙◌}
use Rattle.bor_store_sql.specs.Moving.{PutsPeriods}
use Rattle.bor_store_sql.proofs.Moves.{both_move, one_more_period, state, then_fails}
use Rattle.bor_store_sql.proofs.moving.put_rows.Goals as goal

pub loop-period-preserved : goal.loop-period-preserved
loop-period-preserved g c =
    let ps = c.args.periods.now in
    let i = c.loop-period.period-index in
    let s0 = state g.S.Store c.args.tx.now.conn.now in
    let s1 = state g.S.Store c.loop-period.tx.conn.now in
    let s2 = state g.S.Store c.put_row.new.tx.conn.now in (
      c.in_ok-put_row.ensures.same_reference ∙ c.loop-period.invariant.0,
      both_move (PutsPeriods (take i ps)) (PutsPeriods (c.period-item.result ∷ [])) (PutsPeriods (take (i + 1) ps)) s0 s1 s2 _ (one_more_period i ps c.period-item.result s0.now s1.now s2.now c.loop-period-test.true c.period-item.is)
          c.loop-period.invariant.1 c.in_ok-put_row.ensures.moves,
    )

pub returns-in_err-put_row-clause-moves : goal.returns-in_err-put_row-clause-moves
returns-in_err-put_row-clause-moves g c = then_fails c.from_residual.ensures.0 c.loop-period.invariant.1 c.in_err-put_row.ensures.moves
