use Rattle.bor_records.proofs.OpenRecords.{determined}
use Rattle.bor_records.proofs.laws.snapshot_is_determined.Goals as goal

pub returns : goal.returns
returns c = determined
