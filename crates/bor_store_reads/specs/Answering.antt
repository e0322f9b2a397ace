-- The answers of reads.
use Rattle.std.specs.Prelude.{◌≢◌, Bool, true, false, if◌then◌else◌, Result, IfOk, MatchResult}
use Rattle.sqlite.specs.declared.error.Error.{Error}
use Rattle.sqlite.specs.declared.error.Error.TheVariants.{SqliteFailure}
use Rattle.sqlite.specs.declared.error.ErrorCode.TheVariants.{OutOfMemory}
use Rattle.sqlite.specs.Held.{Held, state}
use Rattle.sqlite.specs.State.{State}
use Rattle.sqlite.specs.Store.{Ghosts}
use Rattle.bor_register.specs.Register.{Register}
use Rattle.bor_register.specs.declared.fault.StoreFault.{StoreFault}
use Rattle.bor_register.specs.declared.fault.StoreFault.TheVariants as store_faults
use Rattle.bor_store_sql.specs.declared.rows.fault.RowFault.{RowFault}
use Rattle.bor_store_sql.specs.declared.rows.fault.RowFault.TheVariants as row_faults
use Rattle.bor_store_sql.specs.Found.{ReadsOnly}
use Rattle.bor_store_sql.specs.Shown.{IsClean, ShowsIn, StaysUp}
use Rattle.bor_store_reads.specs.declared.fault.ReadError.{ReadError}
use Rattle.bor_store_reads.specs.declared.fault.ReadError.TheVariants as errors

-- an error of the store is want of memory
abbrev pub wants_memory : Error → Bool
wants_memory (SqliteFailure OutOfMemory) = true
wants_memory _ = false

-- the error for one of the store: want of memory, and of each other one a store that failed
abbrev pub of_store : Error → ReadError
of_store error = if wants_memory error then errors.Memory else errors.Store

-- memory is wanting or the store failed: the tables are those of a register
abbrev pub IsNoDamage : ReadError → Type 0
IsNoDamage error = error ≢ errors.Damaged

-- the error for a row that is not read
abbrev pub of_row : RowFault → ReadError
of_row row_faults.Memory = errors.Memory
of_row row_faults.Damaged = errors.Damaged

-- Where the connection ended clean and showed a register, this holds of an answer, and no error is
-- of damage.
abbrev pub Answers : {X : Type 0} → State → State → Result X ReadError
    → (Register → X → Type 0) → Type 0
Answers old new result P =
    IsClean new → (r : Register) → ShowsIn r old → MatchResult result (P r) IsNoDamage

-- A read: it changes nothing, and this holds of what it answers of the register that is shown.
-- Where it answers, a connection that was open is open, if its disk has returned what was written.
pub record ReadsAs {X : Type 0} (old new : State) (result : Result X ReadError)
    (P : Register → X → Type 0) : Type 0 where
  pub reads : ReadsOnly old new
  pub up : IfOk result (λ x. StaysUp old new)
  pub answer : Answers old new result P

-- the same of a connection
abbrev pub ReadsIn : {S X : Type 0} → Ghosts S → Held S → Held S → Result X ReadError
    → (Register → X → Type 0) → Type 0
ReadsIn g old new result P = ReadsAs (state g old) (state g new) result P

-- the fault of a keep for an error
abbrev pub told_as : ReadError → StoreFault
told_as errors.Memory = store_faults.Memory
told_as errors.Store = store_faults.Store
told_as errors.Damaged = store_faults.Damaged
