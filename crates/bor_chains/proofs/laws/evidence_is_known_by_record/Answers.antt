use Rattle.bor_chains.proofs.OneEvidence.{by_record}
use Rattle.bor_chains.proofs.laws.evidence_is_known_by_record.Goals as goal

pub returns : goal.returns
returns c = by_record
