-- A read of a mirror or of its store.
use Rattle.std.specs.Prelude.{◌≡◌, ◌⊎◌, Option, Some, Result, Ok, Err}
use Rattle.bor_register.specs.declared.fault.StoreFault.{StoreFault}
use Rattle.bor_register.specs.Register.{Register}
use Rattle.bor_register.specs.Memory.Holding.{Holding}

-- the mirror was there, and has answered this
pub record HasAnswered {T : Type 0}
    (asks : Holding → Result T StoreFault → Holding → Type 0)
    (before after : Option Register) (answer : Result T StoreFault) : Type 0 where
  pub was : Holding
  pub is : Holding
  pub asked : asks was answer is
  pub held : before ≡ Some was.register
  pub holds : after ≡ Some is.register

-- The mirror has answered, and the store is as it was; or the store has, after a mirror that wasn't
-- asked or had no memory for it.
pub data IsReadOfEither {S N T : Type 0} (asks : Holding → Result T StoreFault → Holding → Type 0)
    (asks_store : S → Result T StoreFault → S → Type 0) (old new : S × Option Register × N)
    (result : Result T StoreFault) : Type 0 where
  of_mirror : (x : T) → result ≡ Ok x → new.0 ≡ old.0 → HasAnswered asks old.1 new.1 (Ok x)
      → IsReadOfEither asks asks_store old new result
  of_store : asks_store old.0 result new.0
      → (new.1 ≡ old.1) ⊎ ((e : StoreFault) × HasAnswered asks old.1 new.1 (Err e))
      → IsReadOfEither asks asks_store old new result
