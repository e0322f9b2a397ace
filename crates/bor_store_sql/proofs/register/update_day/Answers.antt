use Rattle.bor_store_sql.proofs.Changes.{day_updated, moves_by}
use Rattle.bor_store_sql.proofs.register.update_day.Goals as goal

pub returns-clause-steps : goal.returns-clause-steps
returns-clause-steps g c = moves_by c.run.ensures.ran c.day_value.ensures (day_updated c.args.day)
