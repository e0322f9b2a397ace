-- The answers of a mirrored keep, by its mirror or by its store.
use Rattle.std.proofs.Common.{◌≡◌, ◌⊎◌, Option, Some, None, Result, Ok, Err, IfOk, refl, sym, subst, ap, ◌∙◌, inl, inr, false, true}
use Rattle.std.specs.Prelude.{is_ok, option_map}
use Rattle.bor_records.specs.Promises.{ChangesWhere, Leaves, Meaning, Reads, StaysClean}
use Rattle.bor_register.specs.Register.{Register}
use Rattle.bor_register.specs.declared.fault.StoreFault.{StoreFault}
use Rattle.bor_register.specs.declared.fault.StoreFault.TheVariants as fault
use Rattle.bor_register.specs.Memory.Holding.{Holding}
use Rattle.bor_register.specs.Bare.{bare_register}
use Rattle.bor_desk.specs.Mirror.Following.{IsFollowed, Mirrors, mirrored}
use Rattle.bor_desk.specs.Mirror.Reading.{HasAnswered, IsReadOfEither, of_mirror, of_store}

-- what a register in memory shows
abbrev pub in_memory : Meaning Holding Register (Unit {0}) StoreFault
in_memory = record {
  shows = λ k r. k.register ≡ r;
  is_clean = λ k. Unit {0};
  is_sound = λ k. Unit {0};
  may_leave = λ k left. ⊥;
  left_shows = λ left r. ⊥;
  fault_count = λ k. k.faults;
  may_tell = λ f. f ≡ fault.Memory;
}

abbrev pub register_in : Option Holding → Option Register
register_in m = option_map (λ (h : Holding). h.register) m

pub answer_of : {T : Type 0} (result : Result T StoreFault) → is_ok result ≡ true → (x : T) × (result ≡ Ok x)
answer_of (Ok x) h = (x, refl)
answer_of (Err e) h = let wrong : false ≡ true = h in absurd cc

-- a fault in place of an answer
abbrev pub fault_told : (T : Type 0) → StoreFault → Result T StoreFault
fault_told T e = Err e

module _ {S N W : Type 0} (meaning : Meaning S Register W StoreFault) where
  -- what the mirror answers, whose register stays
  pub by_mirror : {T : Type 0} {P : Register → T → Type 0} {x : T} {n m : N} (self : S × Option Register × N) (store : S) (was now : Register) → (store, Some was, n) ≡ self → was ≡ now
      → ((r : Register) → was ≡ bare_register r → P r x) → Reads (mirrored meaning) self (store, Some now, m) (Ok x) P
  by_mirror {T} {P} {x} {n} {m} self store was now viewed same told =
      subst (λ (k : S × Option Register × N). Reads (mirrored meaning) k (store, Some now, m) (Ok x) P) viewed
      (subst (λ (r : Register). Reads (mirrored meaning) (store, Some was, n) (store, Some r, m) (Ok x) P) same
      (record {
        kept = record {
          began = λ clean. clean;
          same = λ clean r. ((λ shown. shown), (λ shown. shown));
          sound = λ sound. sound;
          stops = λ sound left may. may;
        };
        lasts = record { sound = λ sound. sound; clean = λ sound clean. clean };
        counts = refl;
        told = λ r shown clean. tt;
        answer = λ r shown clean. told r shown.1;
      }))

  -- what the store answers
  pub by_store : {T : Type 0} {P : Register → T → Type 0} {result : Result T StoreFault} {n m : N} (self : S × Option Register × N) (old new : S) (before after : Option Register) → (old, before, n) ≡ self → before ≡ after
      → Reads meaning old new result P → Reads (mirrored meaning) self (new, after, m) result P
  by_store {T} {P} {result} {n} {m} self old new before after viewed same reads =
      subst (λ (k : S × Option Register × N). Reads (mirrored meaning) k (new, after, m) result P) viewed
      (subst (λ (o : Option Register). Reads (mirrored meaning) (old, before, n) (new, o, m) result P) same
      (record {
        kept = record {
          began = reads.kept.began;
          same = λ clean r. ((λ shown. ((reads.kept.same clean r).0 shown.0, shown.1)), (λ shown. ((reads.kept.same clean r).1 shown.0, shown.1)));
          sound = reads.kept.sound;
          stops = reads.kept.stops;
        };
        lasts = lasting result reads.lasts;
        counts = reads.counts;
        told = λ r shown clean. reads.told r shown.0 clean;
        answer = λ r shown clean. reads.answer r shown.0 clean;
      }))
    where
      lasting : {X : Type 0} (answer : Result X StoreFault) → IfOk answer (λ x. StaysClean meaning old new) → IfOk answer (λ x. StaysClean (mirrored meaning) (old, before, n) (new, before, m))
      lasting (Ok x) h = record { sound = h.sound; clean = h.clean }
      lasting (Err e) h = tt

  -- A read of either is one of the keep: a register without its files has what the mirror answers,
  -- and so has the register.
  pub is_read : {T : Type 0} {P : Register → T → Type 0} {asks : Holding → Result T StoreFault → Holding → Type 0} {asks_store : S → Result T StoreFault → S → Type 0} {old new : S × Option Register × N} {result : Result T StoreFault}
      → IsReadOfEither asks asks_store old new result
      → ((was is : Holding) (answer : Result T StoreFault) → asks was answer is → Reads in_memory was is answer P)
      → ((was is : S) (answer : Result T StoreFault) → asks_store was answer is → Reads meaning was is answer P)
      → ((r : Register) (x : T) → P (bare_register r) x → P r x)
      → Reads (mirrored meaning) old new result P
  is_read {T} {P} {old = old} {new} {result} (of_mirror x told same said) mirrors stores law =
      let reads = mirrors said.was said.is (Ok x) said.asked in
      let stays : said.was.register ≡ said.is.register = sym ((reads.kept.same tt said.was.register).0 refl) in
      subst (λ (y : Result T StoreFault). Reads (mirrored meaning) old new y P) (sym told)
      (subst (λ (k : S × Option Register × N). Reads (mirrored meaning) old k (Ok x) P) (λ i. (sym same i, sym said.holds i, new.2))
      (by_mirror old old.0 said.was.register said.is.register (λ i. (old.0, sym said.held i, old.2)) stays
      (λ r bare. law r x (subst (λ (q : Register). P q x) bare (reads.answer said.was.register refl tt)))))
  is_read {T} {P} {asks = asks} {old = old} {new} {result} (of_store said mirror) mirrors stores law =
      by_store old old.0 new.0 old.1 new.1 refl (stays mirror) (stores old.0 new.0 result said)
    where
      stays : (new.1 ≡ old.1) ⊎ ((e : StoreFault) × HasAnswered asks old.1 new.1 (Err e)) → old.1 ≡ new.1
      stays (inl same) = sym same
      stays (inr (e, said)) = said.held ∙ ap (λ (q : Register). Some q) (sym (((mirrors said.was said.is (Err e) said.asked).kept.same tt said.was.register).0 refl)) ∙ sym said.holds

  -- what the store does, where the mirror follows
  leaves_both : {Fits : Register → Type 0} {change : Register → Register} {old new : S} {before after : Option Register} {n m : N} → Leaves meaning old new (λ r left. Fits r → meaning.left_shows left (change r))
      → Leaves (mirrored meaning) (old, before, n) (new, after, m) (λ r left. Fits r → meaning.left_shows left (change r))
  leaves_both leaves = record {
    began = leaves.began;
    sound = leaves.sound;
    stops = λ sound left may. (elim (leaves.stops sound left may) [
      | inl was ↦ inl was
      | inr made ↦ inr (made.0, λ r shown. made.1 r shown.0)
    ]);
  }

  -- the store has answered
  pub made_both : {T : Type 0} {x : T} {n m : N} (Fits : Register → Type 0) (change : Register → Register) (self : S × Option Register × N) (old new : S) (before after : Option Register) → (old, before, n) ≡ self
      → ((r : Register) → Fits r → Mirrors before r → Mirrors after (change r))
      → ChangesWhere meaning old new (Ok x) Fits change
      → ChangesWhere (mirrored meaning) self (new, after, m) (Ok x) Fits change
  made_both {T} {x} {n} {m} Fits change self old new before after viewed follows changes =
      subst (λ (k : S × Option Register × N). ChangesWhere (mirrored meaning) k (new, after, m) (Ok x) Fits change) viewed
      (record {
        leaves = leaves_both changes.leaves;
        lasts = record { sound = changes.lasts.sound; clean = changes.lasts.clean };
        counts = changes.counts;
        told = λ r shown clean fits. tt;
        failed = λ r shown clean. tt;
        made = λ r shown clean fits. (changes.made r shown.0 clean fits, follows r fits shown.1);
      })

  -- the store has answered a fault, and the mirror stays
  pub failed_both : {T : Type 0} {e : StoreFault} {n m : N} (Fits : Register → Type 0) (change : Register → Register) (self : S × Option Register × N) (old new : S) (before : Option Register) → (old, before, n) ≡ self
      → ChangesWhere meaning old new (fault_told T e) Fits change
      → ChangesWhere (mirrored meaning) self (new, before, m) (fault_told T e) Fits change
  failed_both {T} {e} {n} {m} Fits change self old new before viewed changes =
      subst (λ (k : S × Option Register × N). ChangesWhere (mirrored meaning) k (new, before, m) (fault_told T e) Fits change) viewed
      (record {
        leaves = leaves_both changes.leaves;
        lasts = tt;
        counts = changes.counts;
        told = λ r shown clean fits. changes.told r shown.0 clean fits;
        failed = λ r shown clean. (changes.failed r shown.0 clean, shown.1);
        made = λ r shown clean fits. tt;
      })

-- ---- the mirror follows

pub follows : (before after : Option Holding) (Fits : Register → Type 0) (small change : Register → Register) → IsFollowed before after Fits small → ((r : Register) → Fits r → Fits (bare_register r))
    → ((r : Register) → small (bare_register r) ≡ bare_register (change r)) → (r : Register) → Fits r → Mirrors (register_in before) r → Mirrors (register_in after) (change r)
follows before None Fits small change made fits law r fit held = tt
follows before (Some new) Fits small change made fits law r fit held =
    let was : made.0.register ≡ bare_register r = subst (λ (o : Option Holding). Mirrors (register_in o) r) made.1 held in
    made.2 (subst Fits (sym was) (fits r fit)) ∙ ap small was ∙ law r
