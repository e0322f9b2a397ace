use Rattle.bor_chains.proofs.OneEvidence.{ends_there}
use Rattle.bor_chains.proofs.laws.evidence_ends_at_the_entity.Goals as goal

pub returns : goal.returns
returns c = ends_there
