use Rattle.bor_store_reads.proofs.FoundAgents.{agent_told}
use Rattle.bor_store_reads.proofs.agents.found_agent.Goals as goal

pub returns : goal.returns
returns g c = agent_told c.as_str.ensures.value c.agent_by_token.ensures c.first_value.ensures.value c.first_value.ensures.found
