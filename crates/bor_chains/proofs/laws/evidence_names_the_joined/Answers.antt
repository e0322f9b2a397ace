use Rattle.bor_chains.proofs.OneEvidence.{evidence_names_the_joined}
use Rattle.bor_chains.proofs.laws.evidence_names_the_joined.Goals as goal

pub returns : goal.returns
returns c = evidence_names_the_joined
