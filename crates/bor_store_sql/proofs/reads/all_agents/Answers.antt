use Rattle.std.proofs.Common.{refl}
use Rattle.bor_store_sql.proofs.Selecting.{all_agents_found, finds}
use Rattle.bor_store_sql.proofs.reads.all_agents.Goals as goal

pub returns : goal.returns
returns g c = finds c.query.ensures refl all_agents_found
