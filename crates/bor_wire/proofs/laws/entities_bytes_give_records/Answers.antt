use Rattle.bor_wire.proofs.ReportBytes.{entities_given}
use Rattle.bor_wire.proofs.laws.entities_bytes_give_records.Goals as goal

pub returns : goal.returns
returns c = entities_given
