-- The meaning of a keep over a connection of SQLite.
use Rattle.std.specs.Prelude.{ℕ}
use Rattle.sqlite.specs.State.{HasCleanDisk, State}
use Rattle.sqlite.specs.Tree.{Trees}
use Rattle.bor_records.specs.Promises.{Meaning}
use Rattle.bor_register.specs.declared.fault.StoreFault.{StoreFault}
use Rattle.bor_register.specs.Register.{Register}
use Rattle.bor_store_sql.specs.Shown.{IsClean, ShowsIn, Stands}
use Rattle.bor_store.specs.Telling.{TellsNoDamage}

-- the meaning by the state of the connection and the count of faults
abbrev pub of_tables : {K : Type 0} → (K → State) → (K → ℕ) → Meaning K Register Trees StoreFault
of_tables connection faults = record {
  shows = λ k r. ShowsIn r (connection k);
  is_clean = λ k. IsClean (connection k);
  is_sound = λ k. HasCleanDisk (connection k);
  may_leave = λ k trees. (connection k).may_leave trees;
  left_shows = λ trees r. Stands r trees;
  fault_count = faults;
  may_tell = TellsNoDamage;
}
