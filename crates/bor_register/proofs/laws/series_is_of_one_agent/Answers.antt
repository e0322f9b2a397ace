use Rattle.bor_register.proofs.OneAgent.{one_agent}
use Rattle.bor_register.proofs.laws.series_is_of_one_agent.Goals as goal

pub returns : goal.returns
returns c = one_agent
