-- A store and its mirror, and how the mirror follows a change of the store.
use Rattle.std.specs.Prelude.{◌≡◌, Option, Some, IfSome}
use Rattle.bor_records.specs.Promises.{Meaning}
use Rattle.bor_register.specs.Bare.{bare_register}
use Rattle.bor_register.specs.declared.fault.StoreFault.{StoreFault}
use Rattle.bor_register.specs.Register.{Register}
use Rattle.bor_register.specs.Memory.Holding.{Holding}

-- A mirror that is there after the change was there before it, and where the change fits what it
-- held, it holds what the change makes of that.
abbrev pub IsFollowed : Option Holding → Option Holding → (Register → Type 0)
    → (Register → Register) → Type 0
IsFollowed before after Fits change =
    IfSome after (λ new. (old : Holding) × (before ≡ Some old)
    × (Fits old.register → new.register ≡ change old.register))

-- the mirror, where there is one, holds the register without files
abbrev pub Mirrors : Option Register → Register → Type 0
Mirrors mirror r = IfSome mirror (λ m. m ≡ bare_register r)

-- the meaning of a store with its mirror and a notice: that of the store, and the mirror mirrors
-- what is shown
abbrev pub mirrored : {S N W : Type 0} → Meaning S Register W StoreFault
    → Meaning (S × Option Register × N) Register W StoreFault
mirrored meaning = record {
  shows = λ k r. meaning.shows k.0 r × Mirrors k.1 r;
  is_clean = λ k. meaning.is_clean k.0;
  is_sound = λ k. meaning.is_sound k.0;
  may_leave = λ k left. meaning.may_leave k.0 left;
  left_shows = meaning.left_shows;
  fault_count = λ k. meaning.fault_count k.0;
  may_tell = meaning.may_tell;
}
