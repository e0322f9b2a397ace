use Rattle.bor_chains.proofs.OneEvidence.{one_way_on}
use Rattle.bor_chains.proofs.laws.links_have_one_way_on.Goals as goal

pub returns : goal.returns
returns c = one_way_on
