-- Deeds on registers in files of SQLite.
use Rattle.bor_register.specs.declared.fault.StoreFault.{StoreFault}
use Rattle.bor_records.specs.Promises.{Meaning}
use Rattle.std.specs.Prelude.{◌≡◌, ◌≢◌, ⊤, List, ℕ, ℤ}
use Rattle.sqlite.specs.State.{HasCleanDisk, State}
use Rattle.sqlite_wal.specs.Recovery.{Image}
use Rattle.bor_register.specs.Register.{Register, empty_register}
use Rattle.bor_desk.specs.Operations.Legality.{IsLegal}
use Rattle.bor_store_sql.specs.Shown.{IsClean, ShowsFirst, ShowsIn}
use Rattle.bor_program.specs.Deeds.{Deed, Opens, SetsUp, Closes, Moves, Fails}
use Rattle.bor_program.specs.declared.failure.Failure.{Failure}
use Rattle.bor_program.specs.declared.failure.Failure.TheVariants.{NoRegister, OtherVersion, Taken}
use Rattle.bor_program.specs.declared.failure.Failure.TheVariants.{Memory, Store}
use Rattle.bor_program.specs.declared.host.opened.Origin.{Origin}
use Rattle.bor_program.specs.declared.host.opened.Origin.TheVariants as origin
use Rattle.bor_store.specs.Opening.{HoldsRegister, IsConnected}
use Rattle.bor_store.specs.declared.open_fault.OpenFault.{OpenFault}
use Rattle.bor_store.specs.declared.open_fault.OpenFault.TheVariants as faults
use Rattle.clap.specs.Words.{Text}
use Rattle.std.specs.Borrow.{Bor}

-- the program's failure for a fault of opening the file of this name
abbrev pub opening_failure : Bor Text → OpenFault → Failure
opening_failure path faults.NoRegister = NoRegister path
opening_failure path (faults.OtherVersion version) = OtherVersion path version
opening_failure path faults.Taken = Taken path
opening_failure path faults.Damaged = Store
opening_failure path faults.Memory = Memory
opening_failure path faults.Store = Store

-- A register came to be open on a connection, which was in this state. One that was there shows
-- what it did; where one is set up, none was shown, and the new one of this registrar and day is
-- shown.
pub record ComesOpen {K W : Type 0} (meaning : Meaning K Register W StoreFault)
    (registrar : List ℕ) (day : ℤ) (old : State) (register : K) (came : Origin) : Type 0 where
  pub began : meaning.is_clean register → IsClean old
  pub found : came ≡ origin.Found → meaning.is_clean register → (r : Register) → ShowsIn r old
      → meaning.shows register r
  pub none : came ≢ origin.Found → meaning.is_clean register → (r : Register) → ¬ ShowsIn r old
  pub made : came ≡ origin.New → meaning.is_clean register
      → meaning.shows register (empty_register registrar day)

-- The same, where the files hold these registers.
pub record FindsOrSetsUp {K W : Type 0} (meaning : Meaning K Register W StoreFault)
    (Held : Register → Type 0) (registrar : List ℕ) (day : ℤ) (register : K)
    (came : Origin) : Type 0 where
  pub found : came ≡ origin.Found → meaning.is_clean register → (r : Register) → Held r
      → meaning.shows register r
  pub none : came ≢ origin.Found → meaning.is_clean register → (r : Register) → ¬ Held r
  pub made : came ≡ origin.New → meaning.is_clean register
      → meaning.shows register (empty_register registrar day)

-- The result of moving the tables of two files, on a connection that was in the one state as it was
-- opened, and is in the other one. It shows then each register that the files held, and each legal
-- one that was shown in version 1.
pub record IsMoved (image : Image) (old new : State) : Type 0 where
  pub connected : HasCleanDisk old → IsConnected image old
  pub began : IsClean new → IsClean old
  pub second : IsClean new → (r : Register) → HoldsRegister image r → ShowsIn r new
  pub first : IsClean new → (r : Register) → ShowsFirst r old → IsLegal r → ShowsIn r new

-- A deed on a file that holds these registers as it is opened. A register that is opened shows
-- them, none is set up over them, and one that is closed is left so. A move is of a connection,
-- which is closed. Of a failure no connection is left, and nothing is said.
abbrev pub IsDeedDone : {K C W : Type 0} → Meaning K Register W StoreFault → (K → C)
    → (C → Type 0) → (Register → Type 0) → (C → C → Type 0) → Deed K → Type 0
IsDeedDone meaning conn IsLeft Held Moved (Opens path register) =
    meaning.is_clean register → (r : Register) → Held r → meaning.shows register r
IsDeedDone meaning conn IsLeft Held Moved (SetsUp path register) =
    meaning.is_clean register → (r : Register) → ¬ Held r
IsDeedDone meaning conn IsLeft Held Moved (Closes path register) = IsLeft (conn register)
IsDeedDone {K} {C} meaning conn IsLeft Held Moved (Moves path) =
    (opened : C) × (left : C) × Moved opened left × IsLeft left
IsDeedDone meaning conn IsLeft Held Moved (Fails path failure) = ⊤
