use Rattle.bor_register.specs.Register.{new_member}
use Rattle.bor_store_sql.proofs.Changes.{agent_put, moves_by}
use Rattle.bor_store_sql.proofs.register.insert_agent.Goals as goal

pub returns-clause-steps : goal.returns-clause-steps
returns-clause-steps g c = moves_by c.run.ensures.ran c.agent_values.ensures (agent_put (new_member c.args.agent.now c.args.token.now))
