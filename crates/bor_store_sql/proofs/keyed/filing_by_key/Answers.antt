use Rattle.bor_store_sql.proofs.Selecting.{filing_by_key_found, finds}
use Rattle.bor_store_sql.proofs.keyed.filing_by_key.Goals as goal

pub returns : goal.returns
returns g c = finds c.query.ensures c.two_texts.ensures (filing_by_key_found c.args.agent.now c.args.key.now)
