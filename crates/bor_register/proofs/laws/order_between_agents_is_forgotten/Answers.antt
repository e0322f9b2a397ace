use Rattle.bor_register.proofs.Journals.{order_is_forgotten}
use Rattle.bor_register.proofs.laws.order_between_agents_is_forgotten.Goals as goal

pub returns : goal.returns
returns c = order_is_forgotten
