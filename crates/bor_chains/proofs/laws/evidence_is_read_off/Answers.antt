use Rattle.bor_chains.proofs.OneEvidence.{evidence_is_read_off}
use Rattle.bor_chains.proofs.laws.evidence_is_read_off.Goals as goal

pub returns : goal.returns
returns c = evidence_is_read_off
