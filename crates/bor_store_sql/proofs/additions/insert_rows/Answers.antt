use Rattle.bor_store_sql.proofs.Lists.{placed_in_turn}
use Rattle.bor_store_sql.proofs.Moves.{both_step, turned}
use Rattle.bor_store_sql.proofs.additions.insert_rows.Goals as goal

pub returns-clause-steps : goal.returns-clause-steps
returns-clause-steps g c = turned (λ t. placed_in_turn c.args.filing.agent c.args.filing.number 1 c.args.statements.now _) (both_step c.in_ok-insert_filing.ensures.steps c.insert_statements.ensures.steps)
