use Rattle.std.proofs.Common.{◌≡◌, ◌+◌, ap, ◌∙◌, arith}
use Rattle.bor_store.proofs.Gathering.{interest_gathered}
use Rattle.bor_store.proofs.days.add_statement.Goals as goal

pub loop-interest-preserved : goal.loop-interest-preserved
loop-interest-preserved c =
    let item : c.in_ok-item.item ≡ c.loop-interest.interest-index + 1 = c.in_ok-item.ensures.value ∙ ap (λ n. n + 1) c.loop-interest.invariant.0 in (
      item,
      c.in_ok-item.ensures.within,
      interest_gathered (record { agent = c.args.agent.now; filing = c.args.filing; place = c.args.place }) _ _ _ c.loop-interest.interest-index _ _ c.interest-item.result (omega (arith, c.loop-interest-test.true)) c.interest-item.is item
          c.loop-interest.invariant.2 c.in_ok-add_one.ensures.added,
    )
