use Rattle.bor_store_sql.proofs.Selecting.{last_filing_found, finds}
use Rattle.bor_store_sql.proofs.keyed.last_filing.Goals as goal

pub returns : goal.returns
returns g c = finds c.query.ensures c.one_text.ensures (last_filing_found c.args.agent.now)
