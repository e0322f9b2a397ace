use Rattle.bor_wire.proofs.ReportBytes.{evidence_given}
use Rattle.bor_wire.proofs.laws.evidence_bytes_give_links.Goals as goal

pub returns : goal.returns
returns c = evidence_given
