use Rattle.bor_store_sql.proofs.Selecting.{file_by_number_found, finds}
use Rattle.bor_store_sql.proofs.keyed.file_by_number.Goals as goal

pub returns : goal.returns
returns g c = finds c.query.ensures c.filing_key.ensures (file_by_number_found c.args.agent.now c.args.number)
