use Rattle.bor_store_sql.proofs.Selecting.{agent_by_name_found, finds}
use Rattle.bor_store_sql.proofs.keyed.agent_by_name.Goals as goal

pub returns : goal.returns
returns g c = finds c.query.ensures c.one_text.ensures (agent_by_name_found c.args.name.now)
