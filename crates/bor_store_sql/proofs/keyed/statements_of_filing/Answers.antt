use Rattle.bor_store_sql.proofs.Selecting.{statements_of_filing_found, finds}
use Rattle.bor_store_sql.proofs.keyed.statements_of_filing.Goals as goal

pub returns : goal.returns
returns g c = finds c.query.ensures c.filing_key.ensures (statements_of_filing_found c.args.agent.now c.args.number)
