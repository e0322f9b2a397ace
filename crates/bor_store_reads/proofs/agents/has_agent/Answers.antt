use Rattle.bor_store_reads.proofs.FoundAgents.{enrolled_told}
use Rattle.bor_store_reads.proofs.agents.has_agent.Goals as goal

pub returns : goal.returns
returns g c = enrolled_told c.as_str.ensures.value c.agent_by_name.ensures c.any.ensures.any c.any.ensures.found
