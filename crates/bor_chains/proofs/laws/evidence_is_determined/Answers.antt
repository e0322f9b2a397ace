use Rattle.bor_chains.proofs.OneEvidence.{evidence_is_determined}
use Rattle.bor_chains.proofs.laws.evidence_is_determined.Goals as goal

pub returns : goal.returns
returns c = evidence_is_determined
