use Rattle.bor_store_sql.proofs.Moves.{at_last, each_moves, then_change}
use Rattle.bor_store_sql.proofs.Changes.{filing_marked, identifiers_deleted, interests_deleted, periods_deleted, statements_deleted}
use Rattle.bor_store_sql.proofs.withdrawal.withdraw_rows.Goals as goal

pub returns-clause-steps : goal.returns-clause-steps
returns-clause-steps g c =
    let agent = c.args.agent.now in
    let number = c.args.number in
    each_moves c.run_each.ensures.ran c.filing_key.ensures
    (then_change (filing_marked agent number) (then_change (periods_deleted agent number) (then_change (identifiers_deleted agent number) (then_change (interests_deleted agent number) (at_last (statements_deleted agent number))))))
