use Rattle.bor_store_sql.proofs.Selecting.{statement_by_id_found, finds}
use Rattle.bor_store_sql.proofs.keyed.statement_by_id.Goals as goal

pub returns : goal.returns
returns g c = finds c.query.ensures c.two_texts.ensures (statement_by_id_found c.args.agent.now c.args.id.now)
