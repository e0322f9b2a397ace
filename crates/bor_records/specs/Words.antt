-- The names of the refusals.
use Rattle.std.specs.Prelude.{ℕ, List, codes}
use Rattle.bor_records.specs.declared.fault.RecordFault.{RecordFault}
use Rattle.bor_records.specs.declared.fault.RecordFault.TheVariants.{TypeChanged, RecordExists}
use Rattle.bor_records.specs.declared.fault.RecordFault.TheVariants.{RecordUnknown, RecordClosed}
use Rattle.bor_records.specs.declared.fault.RecordFault.TheVariants.{DateBack, DueBeforeRecord}

-- the name that is shown for a refusal
unfoldable pub fault_name : RecordFault → List ℕ
fault_name TypeChanged = codes "TypeChanged"
fault_name RecordExists = codes "RecordExists"
fault_name RecordUnknown = codes "RecordUnknown"
fault_name RecordClosed = codes "RecordClosed"
fault_name DateBack = codes "DateBack"
fault_name DueBeforeRecord = codes "DueBeforeRecord"
