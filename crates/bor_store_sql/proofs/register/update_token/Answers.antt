use Rattle.bor_store_sql.proofs.Changes.{token_updated, moves_by}
use Rattle.bor_store_sql.proofs.register.update_token.Goals as goal

pub returns-clause-steps : goal.returns-clause-steps
returns-clause-steps g c = moves_by c.run.ensures.ran c.two_texts.ensures (token_updated c.args.agent.now c.args.token.now)
