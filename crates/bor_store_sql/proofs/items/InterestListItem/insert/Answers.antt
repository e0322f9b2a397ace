use Rattle.bor_store_sql.proofs.Changes.{interest_put}
use Rattle.bor_store_sql.proofs.Moves.{both_step, moves_by}
use Rattle.bor_store_sql.proofs.items.InterestListItem.insert.Goals as goal

pub returns-clause-steps : goal.returns-clause-steps
returns-clause-steps g c =
    both_step (moves_by c.in_ok-run.ensures.ran c.interest_values.ensures (interest_put (record { at = c.args.at.now; item = c.args.number; interest = c.args.self.now }))) c.insert_days.ensures.steps
