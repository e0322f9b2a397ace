use Rattle.bor_store_sql.proofs.Selecting.{statements_of_record_found, finds}
use Rattle.bor_store_sql.proofs.records.statements_of_record.Goals as goal

pub returns : goal.returns
returns g c = finds c.query.ensures c.two_texts.ensures (statements_of_record_found c.args.agent.now c.args.rec.now)
