use Rattle.std.proofs.Common.{◌≡◌, ◌+◌, ap, ◌∙◌}
use Rattle.bor_store_sql.proofs.Lists.{next_in_turn}
use Rattle.bor_store_sql.proofs.Moves.{fails, one_more, then_fails}
use Rattle.bor_store_sql.proofs.items.insert_items.Goals as goal

pub loop-item-preserved : goal.loop-item-preserved
loop-item-preserved g c =
    let it = c.loop-item.invariant in
    let number : c.in_ok-number.number ≡ c.loop-item.item-index + 1 = c.in_ok-number.ensures.value ∙ ap (λ n. n + 1) it.counted in
    record {
      same_reference = c.in_ok-insert.ensures.same_reference ∙ it.same_reference;
      counted = number;
      within = c.in_ok-number.ensures.within;
      steps = one_more (next_in_turn (g.T.ListItem.with_rows c.args.at.now) c.loop-item.item-index c.in_ok-number.number c.args.items.now c.item-item.result c.loop-item-test.true c.item-item.is number) it.steps c.in_ok-insert.ensures.steps;
    }

pub returns-in_err-number-clause-steps : goal.returns-in_err-number-clause-steps
returns-in_err-number-clause-steps g c = fails c.from_residual.ensures.0 c.loop-item.invariant.steps

pub returns-in_err-insert-clause-steps : goal.returns-in_err-insert-clause-steps
returns-in_err-insert-clause-steps g c = then_fails c.from_residual-in_err-insert.ensures.0 c.loop-item.invariant.steps c.in_err-insert.ensures.steps
