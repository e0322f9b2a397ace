-- The fault of a keep for an error of the tables.
use Rattle.std.specs.Prelude.{◌≢◌, if◌then◌else◌, Result, Ok, Err}
use Rattle.sqlite.specs.declared.error.Error.{Error}
use Rattle.bor_register.specs.declared.fault.StoreFault.{StoreFault}
use Rattle.bor_register.specs.declared.fault.StoreFault.TheVariants as store_faults
use Rattle.bor_store_reads.specs.declared.fault.ReadError.{ReadError}
use Rattle.bor_store_reads.specs.Answering.{told_as, wants_memory}

-- an answer as it is, and an error as its fault
abbrev pub tells : {X : Type 0} → Result X ReadError → Result X StoreFault
tells (Ok x) = Ok x
tells (Err error) = Err (told_as error)

-- the fault doesn't say that the tables are damaged
abbrev pub TellsNoDamage : StoreFault → Type 0
TellsNoDamage fault = fault ≢ store_faults.Damaged

-- the fault of an error of the store: want of memory, and of each other one a store that failed
abbrev pub store_fault_of : Error → StoreFault
store_fault_of error = if wants_memory error then store_faults.Memory else store_faults.Store

-- the value that was made, and an error of the store as its fault
abbrev pub tells_made : {X : Type 0} → Result X Error → Result X StoreFault
tells_made (Ok x) = Ok x
tells_made (Err error) = Err (store_fault_of error)
