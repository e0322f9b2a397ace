use Rattle.std.proofs.Common.{◌≡◌, ◌+◌, ap, ◌∙◌, arith}
use Rattle.bor_store.proofs.Gathering.{statement_gathered}
use Rattle.bor_store.proofs.days.add_days.Goals as goal

pub loop-statement-preserved : goal.loop-statement-preserved
loop-statement-preserved c =
    let place : c.in_ok-place.place ≡ c.loop-statement.statement-index + 1 = c.in_ok-place.ensures.value ∙ ap (λ n. n + 1) c.loop-statement.invariant.0 in (
      place,
      c.in_ok-place.ensures.within,
      statement_gathered c.args.agent.now c.args.filing _ _ _ c.loop-statement.statement-index _ _ c.statement-item.result (omega (arith, c.loop-statement-test.true)) c.statement-item.is place c.loop-statement.invariant.2 c.in_ok-add_statement.ensures.added,
    )
