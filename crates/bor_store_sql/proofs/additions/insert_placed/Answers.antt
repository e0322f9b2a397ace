use Rattle.bor_store_sql.proofs.Lists.{placed_at_once}
use Rattle.bor_store_sql.proofs.Moves.{both_step, turned}
use Rattle.bor_store_sql.proofs.additions.insert_placed.Goals as goal

pub returns-clause-steps : goal.returns-clause-steps
returns-clause-steps g c =
    let two = both_step c.in_ok-insert_statement.ensures.steps c.in_ok-insert_items.ensures.steps in
    turned (placed_at_once c.args.at.now c.args.statement.now c.identifiers.result.now c.interests.result.now c.identifiers.ensures c.interests.ensures) (both_step two c.insert_items-2.ensures.steps)
