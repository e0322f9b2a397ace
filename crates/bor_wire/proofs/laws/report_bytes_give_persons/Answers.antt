use Rattle.bor_wire.proofs.ReportBytes.{persons_given}
use Rattle.bor_wire.proofs.laws.report_bytes_give_persons.Goals as goal

pub returns : goal.returns
returns c = persons_given
