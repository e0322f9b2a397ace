use Rattle.bor_chains.proofs.OneEntity.{same_is_class}
use Rattle.bor_chains.proofs.laws.same_are_a_class.Goals as goal

pub returns : goal.returns
returns c = same_is_class
