use Rattle.bor_store_sql.proofs.Selecting.{line_by_number_found, finds}
use Rattle.bor_store_sql.proofs.keyed.line_by_number.Goals as goal

pub returns : goal.returns
returns g c = finds c.query.ensures c.filing_key.ensures (line_by_number_found c.args.agent.now c.args.number)
