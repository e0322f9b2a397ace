use Rattle.bor_store_sql.proofs.Selecting.{filings_of_agent_found, finds}
use Rattle.bor_store_sql.proofs.keyed.filings_of_agent.Goals as goal

pub returns : goal.returns
returns g c = finds c.query.ensures c.one_text.ensures (filings_of_agent_found c.args.agent.now)
