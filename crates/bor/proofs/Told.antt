-- The promises on a register that was opened, once its faults are reported.
use Rattle.bor_register.specs.declared.fault.StoreFault.{StoreFault}
use Rattle.bor_records.specs.Promises.{Meaning}
use Rattle.std.proofs.Common.{◌≡◌, ℕ, ℤ, List, Result, Ok, Err, IfOk, MatchResult, refl, subst, sym}
use Rattle.std.specs.Borrow.{Bor}
use Rattle.clap.specs.Words.{Text}
use Rattle.sqlite.specs.State.{HasCleanDisk, State}
use Rattle.sqlite_wal.specs.Recovery.{Image}
use Rattle.bor_register.specs.Register.{Register}
use Rattle.bor_store.specs.Opening.{HoldsRegister, IsConnected}
use Rattle.bor_program.specs.Deeds.{ComesToBe, Deed, Opens, SetsUp}
use Rattle.bor_program.specs.declared.host.opened.Opened.{Opened}
use Rattle.bor_program.specs.declared.host.opened.Origin.{Origin}
use Rattle.bor_program.specs.declared.host.opened.Origin.TheVariants.{Found, New}
use Rattle.bor.specs.Machine.{ComesOpen, FindsOrSetsUp}

pub told_ok : {A E F : Type 0} (P : A → Type 0) (of : E → F) (opened : Result A E) (told : Result A F) → MatchResult opened (λ x. told ≡ Ok x) (λ e. told ≡ Err (of e))
    → IfOk opened P → IfOk told P
told_ok P of (Ok x) told e h = subst (λ o. IfOk o P) (sym e) h
told_ok P of (Err fault) told e h = subst (λ o. IfOk o P) (sym e) tt

-- the same of what is made of it
pub told_of : {A B E F : Type 0} (P : A → Type 0) (Q : B → Type 0) (of : A → B) (fault : E → F) (opened : Result A E) (told : Result B F)
    → MatchResult opened (λ x. told ≡ Ok (of x)) (λ e. told ≡ Err (fault e)) → ((x : A) → P x → Q (of x)) → IfOk opened P → IfOk told Q
told_of P Q of fault (Ok x) told e so h = subst (λ t. IfOk t Q) (sym e) (so x h)
told_of P Q of fault (Err f) told e so h = subst (λ t. IfOk t Q) (sym e) tt

module _ {K W : Type 0} (meaning : Meaning K Register W StoreFault) (Held : Register → Type 0) (path : Bor Text) (registrar : List ℕ) (day : ℤ) (Done : Deed K → Type 0)
    (found : (register : K) → (meaning.is_clean register → (r : Register) → Held r → meaning.shows register r) → Done (Opens path register))
    (made : (register : K) → (meaning.is_clean register → (r : Register) → ¬ Held r) → Done (SetsUp path register)) where
  -- what came to be open did so by a deed
  comes : (register : K) (came : Origin) → FindsOrSetsUp meaning Held registrar day register came → ComesToBe meaning path registrar day register came Done
  comes register Found h = found register (h.found refl)
  comes register New h = (made register (h.none (λ e. cc)), h.made refl)

  -- the same, once faults are told
  pub told_comes : {E F : Type 0} (of : E → F) (opened : Result (Opened K) E) (told : Result (Opened K) F) → MatchResult opened (λ x. told ≡ Ok x) (λ e. told ≡ Err (of e))
      → IfOk opened (λ o. FindsOrSetsUp meaning Held registrar day o.register o.origin)
      → IfOk told (λ o. ComesToBe meaning path registrar day o.register o.origin Done)
  told_comes of (Ok o) told e h =
      subst (λ t. IfOk t (λ o. ComesToBe meaning path registrar day o.register o.origin Done)) (sym e) (comes o.register o.origin h)
  told_comes of (Err fault) told e h = subst (λ t. IfOk t (λ o. ComesToBe meaning path registrar day o.register o.origin Done)) (sym e) tt

-- what came to be open on a connection that shows what its files hold
pub found_or_made : {K E W : Type 0} (meaning : Meaning K Register W StoreFault) (registrar : List ℕ) (day : ℤ) (image : Image) (s : State) → (HasCleanDisk s → IsConnected image s)
    → (result : Result (Opened K) E) → IfOk result (λ o. ComesOpen meaning registrar day s o.register o.origin)
    → IfOk result (λ o. FindsOrSetsUp meaning (HoldsRegister image) registrar day o.register o.origin)
found_or_made meaning registrar day image s connected (Err e) h = tt
found_or_made meaning registrar day image s connected (Ok o) h = record {
  found = λ is clean r held. h.found is clean r ((connected (h.began clean).0).shows r held);
  none = λ is clean r held. h.none is clean r ((connected (h.began clean).0).shows r held);
  made = h.made;
}
