-- The meaning of a register in the tables of a connection with the same in memory beside it.
use Rattle.std.specs.Prelude.{◌≡◌, ℕ, IfSome, Option}
use Rattle.sqlite.specs.State.{HasCleanDisk, State}
use Rattle.sqlite.specs.Tree.{Trees}
use Rattle.bor_records.specs.Promises.{Meaning}
use Rattle.bor_register.specs.declared.fault.StoreFault.{StoreFault}
use Rattle.bor_register.specs.Bare.{bare_register}
use Rattle.bor_register.specs.Register.{Register}
use Rattle.bor_store_sql.specs.Shown.{IsClean, ShowsIn, Stands}
use Rattle.bor_store.specs.Telling.{TellsNoDamage}

-- the meaning by the state of the connection, the register in memory, if there is one, which is
-- then the one that is shown, without files, and the count of faults
abbrev pub of_served : {K : Type 0} → (K → State) → (K → Option Register) → (K → ℕ)
    → Meaning K Register Trees StoreFault
of_served connection mirror faults = record {
  shows = λ k r. ShowsIn r (connection k) × IfSome (mirror k) (λ m. m ≡ bare_register r);
  is_clean = λ k. IsClean (connection k);
  is_sound = λ k. HasCleanDisk (connection k);
  may_leave = λ k trees. (connection k).may_leave trees;
  left_shows = λ trees r. Stands r trees;
  fault_count = faults;
  may_tell = TellsNoDamage;
}
