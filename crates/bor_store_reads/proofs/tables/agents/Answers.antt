use Rattle.bor_store_reads.proofs.FoundAgents.{agents_told}
use Rattle.bor_store_reads.proofs.tables.agents.Goals as goal

pub returns : goal.returns
returns g c = agents_told c.all_agents.ensures c.all_values.ensures.values c.all_values.ensures.found
