use Rattle.bor_store_sql.proofs.Creating.{register_put, register_put_beside}
use Rattle.bor_store_sql.proofs.Moves.{moves_by}
use Rattle.bor_store_sql.proofs.creation.insert_register.Goals as goal

pub returns-clause-leads : goal.returns-clause-leads
returns-clause-leads g c = moves_by c.run.ensures.ran c.register_values.ensures (λ old new count h has. register_put c.args.registrar.now c.args.day old new count has h)

pub returns-clause-puts : goal.returns-clause-puts
returns-clause-puts g c = moves_by c.run.ensures.ran c.register_values.ensures (λ old new count h. register_put_beside c.args.registrar.now c.args.day old new count h)
