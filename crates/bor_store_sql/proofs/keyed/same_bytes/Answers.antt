use Rattle.bor_store_sql.proofs.Selecting.{same_bytes_found, finds}
use Rattle.bor_store_sql.proofs.keyed.same_bytes.Goals as goal

pub returns : goal.returns
returns g c = finds c.query.ensures c.file_key.ensures (same_bytes_found c.args.agent.now c.args.key.now c.args.bytes.now)
