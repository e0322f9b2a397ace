-- The account of an operation that ends by a fault of its keep.
use Rattle.std.proofs.Common.{◌≡◌, ℕ, Option, Some, Result, Err, inr, sym, ap, subst, ◌∙◌}
use Rattle.std.specs.Prelude.{◌≢◌, IsErrAnd}
use Rattle.std.proofs.lemmas.Result.{err_from_is_err_and}
use Rattle.bor_records.specs.Promises.{Kept, Meaning, Reads, StaysClean}
use Rattle.bor_records.proofs.KeptLaws.{lasts_then}
use Rattle.bor_register.specs.declared.fault.StoreFault.{StoreFault}
use Rattle.bor_desk.specs.Operations.Outcomes.{Accounts, ByStore, IsFaultOf, IsTellable, store_fault}
use Rattle.bor_desk.proofs.OnOperations.Outcomes.{unless_store}
use Rattle.bor_desk.proofs.OnOperations.Lodgings.{moved}

abbrev pub failed_with : (T : Type 0) → StoreFault → Result T StoreFault
failed_with T e = Err e

module _ {S V W : Type 0} (meaning : Meaning S V W StoreFault) where
  -- of a read that comes after others, which were answered
  pub stops_after : {A T E : Type 0} {P : V → T → Type 0} {e : StoreFault} {x : E} (of : E → Option StoreFault) (old mid new : S) (result : Result A E) → Kept meaning old mid → meaning.fault_count mid ≡ meaning.fault_count old
      → IsErrAnd result (λ y. y ≡ x) → of x ≡ Some e → Reads meaning mid new (failed_with T e) P → Accounts meaning old new (store_fault of result)
  stops_after {A} {T} {E} {P} {e} {x} of old mid new result kept counted err is reads =
      let p = err_from_is_err_and result err in
      let made : E → Result A E = λ y. Err y in
      let known : store_fault of result ≡ Some e = ap (λ (q : Result A E). store_fault of q) (p.1 ∙ ap made p.2) ∙ is in
      let other : meaning.fault_count new ≢ meaning.fault_count old = λ same. moved (meaning.fault_count mid) (sym reads.counts ∙ same ∙ sym counted) in
      subst (λ (o : Option StoreFault). Accounts meaning old new o) (sym known) (record {
        counted = inr other;
        told = λ v shown clean. inr (reads.told v ((kept.same (reads.kept.began clean) v).0 shown) clean, other);
        lasts = tt;
      })

  -- of a call by such reads that comes after others, which were answered
  pub stops_later : {A E : Type 0} {fault : Option StoreFault} {x : E} (of : E → Option StoreFault) (old mid new : S) (result : Result A E) → Kept meaning old mid → meaning.fault_count mid ≡ meaning.fault_count old → StaysClean meaning old mid
      → (meaning.is_clean new → meaning.is_clean mid) → IsErrAnd result (λ y. y ≡ x) → of x ≡ fault → Accounts meaning mid new fault → Accounts meaning old new (store_fault of result)
  stops_later {A} {E} {fault} {x} of old mid new result kept counted lasts began err is later =
      let p = err_from_is_err_and result err in
      let made : E → Result A E = λ y. Err y in
      let known : store_fault of result ≡ fault = ap (λ (q : Result A E). store_fault of q) (p.1 ∙ ap made p.2) ∙ is in
      subst (λ (o : Option StoreFault). Accounts meaning old new o) (sym known) (record {
        counted = subst (λ (n : ℕ). ByStore fault (meaning.fault_count new ≡ n) (IsFaultOf n (meaning.fault_count new))) counted later.counted;
        told = λ v shown clean. subst (λ (n : ℕ). ByStore fault (Unit {0}) (IsTellable meaning.may_tell n (meaning.fault_count new))) counted (later.told v ((kept.same (began clean) v).0 shown) clean);
        lasts = unless_store fault (StaysClean meaning mid new) (StaysClean meaning old new) (λ h. lasts_then meaning old mid new lasts h) later.lasts;
      })
