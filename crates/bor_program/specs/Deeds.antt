-- Deeds on the registers in files.
use Rattle.bor_register.specs.declared.fault.StoreFault.{StoreFault}
use Rattle.bor_records.specs.Promises.{Meaning}
use Rattle.std.specs.Prelude.{ℕ, ℤ, List}
use Rattle.std.specs.Borrow.{Bor}
use Rattle.bor_register.specs.Register.{Register, empty_register}
use Rattle.clap.specs.Words.{Text}
use Rattle.bor_program.specs.Courses.{Course}
use Rattle.bor_program.specs.declared.failure.Failure.{Failure}
use Rattle.bor_program.specs.declared.host.opened.Origin.{Origin}
use Rattle.bor_program.specs.declared.host.opened.Origin.TheVariants.{Found, New}

-- One deed, on the file of this name.
pub data Deed (K : Type 0) : Type 0 where
  -- the register that stands in it is opened: it is this
  Opens : Bor Text → K → Deed K
  -- it has no register; one is set up and opened: it is this
  SetsUp : Bor Text → K → Deed K
  -- this is closed as the register that is left in it
  Closes : Bor Text → K → Deed K
  -- the register that stands in it is moved to the tables of this program
  Moves : Bor Text → Deed K
  -- none of these can be done, for this failure
  Fails : Bor Text → Failure → Deed K

-- How a register came to be open: it stood in the file, or one was set up, the new register of this
-- registrar and day.
abbrev pub ComesToBe : {K W : Type 0} → Meaning K Register W StoreFault → Bor Text → List ℕ → ℤ
    → K → Origin → (Deed K → Type 0) → Type 0
ComesToBe meaning path registrar day register Found done = done (Opens path register)
ComesToBe meaning path registrar day register New done =
    done (SetsUp path register)
    × (meaning.is_clean register → meaning.shows register (empty_register registrar day))

-- A register comes to be open, and what is left of it is closed in the file of this name. Nothing
-- else is done.
pub record Visits {M K : Type 0} (files : Course M (Deed K)) (path : Bor Text)
    (Comes : (Deed K → Type 0) → Type 0) (left : K) : Type 0 where
  pub between : M
  pub comes : Comes (λ deed. files.does files.begun deed between)
  pub closes : files.does between (Closes path left) files.ended
