-- What is told of the answers of a connection: of what was read, and of what a change made.
use Rattle.std.proofs.Common.{◌≡◌, ◌↔◌, ℕ, Bool, true, false, if◌then◌else◌, Result, Ok, Err, IfErr, IfOk, MatchResult, OnErr, OnOk, refl, sym, subst}
use Rattle.sqlite.specs.State.{State, HasCleanDisk}
use Rattle.sqlite.specs.Tree.{Trees}
use Rattle.sqlite.specs.declared.error.Error.{Error}
use Rattle.bor_records.specs.Promises.{Changes, ChangesWhere, Leaves, Reads, StaysClean, counted, left_by}
use Rattle.bor_register.specs.Register.{Register}
use Rattle.bor_register.specs.declared.fault.StoreFault.{StoreFault}
use Rattle.bor_register.specs.declared.fault.StoreFault.TheVariants as store_faults
use Rattle.bor_store_sql.specs.Shown.{AltersTo, IsClean, IsUp, ShowsIn, Stands, StaysUp}
use Rattle.bor_store_reads.specs.declared.fault.ReadError.{ReadError}
use Rattle.bor_store_reads.specs.declared.fault.ReadError.TheVariants as errors
use Rattle.bor_store_reads.specs.Answering.{IsNoDamage, ReadsAs, told_as, wants_memory}
use Rattle.bor_store_reads.proofs.Found.{still_shows}
use Rattle.bor_store.specs.Tables.{of_tables}
use Rattle.bor_store.specs.Telling.{tells, tells_made, TellsNoDamage}
use Rattle.bor_store.proofs.Stopping.{keep_leaves}

-- states that show the same register
pub still_kept : (r : Register) (old new : State) → new.committed ≡ old.committed → ShowsIn r old ↔ ShowsIn r new
still_kept r old new same = (still_shows r old new same, still_shows r new old (sym same))

-- ---- of a read

told_answer : {X : Type 0} (P : X → Type 0) (answer : Result X ReadError) (told : Result X StoreFault) → told ≡ tells answer → MatchResult answer P IsNoDamage → IfOk told P
told_answer P (Ok x) told is h = rw is h
told_answer P (Err error) told is h = rw is tt

told_count : {X : Type 0} (answer : Result X ReadError) (told : Result X StoreFault) (n m : ℕ) → told ≡ tells answer → m ≡ counted answer n → m ≡ counted told n
told_count (Ok x) told n m is count = rw is count
told_count (Err error) told n m is count = rw is count

no_damage : (error : ReadError) → IsNoDamage error → TellsNoDamage (told_as error)
no_damage errors.Damaged whole = absurd (whole refl)
no_damage error whole = λ e. (let it = e in cc)

pub undamaged_told : {X : Type 0} (P : X → Type 0) (answer : Result X ReadError) (told : Result X StoreFault) → told ≡ tells answer → MatchResult answer P IsNoDamage → IfErr told TellsNoDamage
undamaged_told P (Ok x) told is h = rw is tt
undamaged_told P (Err error) told is h = rw is (no_damage error h)

-- what is told comes from a connection that is open
pub up_told : {X : Type 0} (answer : Result X ReadError) (told : Result X StoreFault) (new : State) → told ≡ tells answer → IfOk answer (λ x. IsUp new) → IfOk told (λ x. HasCleanDisk new → IsClean new)
up_told (Ok x) told new is up = rw is (λ clean. (clean, up clean))
up_told (Err error) told new is up = rw is tt

-- ---- of a change

-- the register after it: what was made, or what was there where a fault is answered
change_left : {X : Type 0} (made : Result X Error) (told : Result X StoreFault) (r changed : Register) (old new : State) → told ≡ tells_made made
    → OnOk made (ShowsIn changed new) → OnErr made (new.committed ≡ old.committed) → ShowsIn r old → ShowsIn (left_by told changed r) new
change_left (Ok x) told r changed old new is shown kept shows = rw is shown
change_left (Err error) told r changed old new is shown kept shows = rw is (still_shows r old new kept shows)

made_shown : {X : Type 0} (made : Result X Error) (told : Result X StoreFault) (changed : Register) (new : State) → told ≡ tells_made made → OnOk made (ShowsIn changed new) → IfOk told (λ x. ShowsIn changed new)
made_shown (Ok x) told changed new is shown = rw is shown
made_shown (Err error) told changed new is shown = rw is tt

unmade_shown : {X : Type 0} (made : Result X Error) (told : Result X StoreFault) (r : Register) (old new : State) → told ≡ tells_made made → OnErr made (new.committed ≡ old.committed) → ShowsIn r old
    → IfErr told (λ e. ShowsIn r new)
unmade_shown (Ok x) told r old new is kept shows = rw is tt
unmade_shown (Err error) told r old new is kept shows = rw is (still_shows r old new kept shows)

counted_made : {X : Type 0} (made : Result X Error) (told : Result X StoreFault) (n m : ℕ) → told ≡ tells_made made → m ≡ counted made n → m ≡ counted told n
counted_made (Ok x) told n m is count = rw is count
counted_made (Err error) told n m is count = rw is count

no_damage_so : (is_memory : Bool) → TellsNoDamage (if is_memory then store_faults.Memory else store_faults.Store)
no_damage_so true = λ e. (let it = e in cc)
no_damage_so false = λ e. (let it = e in cc)

undamaged_made : {X : Type 0} (made : Result X Error) (told : Result X StoreFault) → told ≡ tells_made made → IfErr told TellsNoDamage
undamaged_made (Ok x) told is = rw is tt
undamaged_made (Err error) told is = rw is (no_damage_so (wants_memory error))

-- ---- the promises that last where an answer is returned

module _ {K : Type 0} (state_of : K → State) (faults : K → ℕ) (old new : K) (clean : HasCleanDisk (state_of new) → HasCleanDisk (state_of old)) where
  lasts : StaysUp (state_of old) (state_of new) → StaysClean (of_tables state_of faults) old new
  lasts up = record { sound = clean; clean = λ sound was. (sound, up sound was.1) }

  pub lasts_told : {X : Type 0} (answer : Result X ReadError) (told : Result X StoreFault) → told ≡ tells answer → IfOk answer (λ x. StaysUp (state_of old) (state_of new))
      → IfOk told (λ x. StaysClean (of_tables state_of faults) old new)
  lasts_told (Ok x) told is up = rw is (lasts up)
  lasts_told (Err error) told is up = rw is tt

  lasts_made : {X : Type 0} (made : Result X Error) (told : Result X StoreFault) → told ≡ tells_made made → OnOk made (IsUp (state_of new))
      → IfOk told (λ x. StaysClean (of_tables state_of faults) old new)
  lasts_made (Ok x) told is up = rw is (lasts (λ clean was. up clean))
  lasts_made (Err error) told is up = rw is tt

-- a read of the connection is one of the keep
pub reads_told : {X K : Type 0} (state_of : K → State) (faults : K → ℕ) {old new : K} {read : State} {answer : Result X ReadError} {told : Result X StoreFault} {P : Register → X → Type 0}
    → ReadsAs (state_of old) read answer P → state_of new ≡ read → told ≡ tells answer → faults new ≡ counted answer (faults old) → Reads (of_tables state_of faults) old new told P
reads_told state_of faults {old} {new} {read} {answer} {told} {P} was ends is counts = record {
  kept = record {
    began = λ clean. was.reads.began (subst IsClean ends clean);
    same = λ clean r. subst (λ s. ShowsIn r (state_of old) ↔ ShowsIn r s) (sym ends) (still_kept r (state_of old) read (was.reads.kept (subst IsClean ends clean)));
    sound = λ clean. was.reads.clean (subst HasCleanDisk ends clean);
    stops = λ clean trees may. was.reads.stops (subst HasCleanDisk ends clean) trees (subst (λ s. s.may_leave trees) ends may);
  };
  lasts = lasts_told state_of faults old new (λ clean. was.reads.clean (subst HasCleanDisk ends clean)) answer told is (subst (λ s. IfOk answer (λ x. StaysUp (state_of old) s)) (sym ends) was.up);
  counts = told_count answer told (faults old) (faults new) is counts;
  told = λ r shows clean. undamaged_told (P r) answer told is (was.answer (subst IsClean ends clean) r shows);
  answer = λ r shows clean. told_answer (P r) answer told is (was.answer (subst IsClean ends clean) r shows);
}

-- ---- what a change of a connection's tables makes of the keep

-- the connection was as in `before` when the change began, and is as it left it in `after`
module _ {K : Type 0} (state_of : K → State) (faults : K → ℕ) {old new : K} {before after : State} {made : Result (Unit {0}) Error} {told : Result (Unit {0}) StoreFault} {Fits : Register → Type 0} {change : Register → Register}
    (begins : before ≡ state_of old) (ends : state_of new ≡ after) (is : told ≡ tells_made made) (counts : faults new ≡ counted made (faults old)) (it : AltersTo ShowsIn Fits change before after made) where
  all_leave : (Left : Register → Trees → Type 0) → ((r : Register) (trees : Trees) → (Fits r → Stands (change r) trees) → Left r trees) → Leaves (of_tables state_of faults) old new Left
  all_leave Left so = keep_leaves state_of faults old new before after begins ends it.commits.clean it.commits.began _ it.stops Left (λ r shows trees stands. so r trees (stands r shows))

  all_last : IfOk told (λ x. StaysClean (of_tables state_of faults) old new)
  all_last = lasts_made state_of faults old new (λ clean. subst HasCleanDisk begins (it.commits.clean (subst HasCleanDisk ends clean))) made told is (subst (λ s. OnOk made (IsUp s)) (sym ends) it.commits.up)

  shown : (r : Register) → ShowsIn r (state_of old) → ShowsIn r before
  shown r shows = subst (ShowsIn r) (sym begins) shows

  -- it fits each register
  pub changes : ((r : Register) → Fits r) → Changes (of_tables state_of faults) old new told change
  changes fits = record {
    leaves = all_leave _ (λ r trees stands. stands (fits r));
    lasts = all_last;
    counts = counted_made made told (faults old) (faults new) is counts;
    told = λ r shows clean. undamaged_made made told is;
    changed = λ r shows clean.
        subst (ShowsIn (left_by told (change r) r)) (sym ends)
        (change_left made told r (change r) before after is (it.made (subst IsClean ends clean) r (shown r shows) (fits r)) (it.commits.kept (subst IsClean ends clean)) (shown r shows));
  }

  -- it fits those registers at least
  pub changes_where : (Where : Register → Type 0) → ((r : Register) → Where r → Fits r) → ChangesWhere (of_tables state_of faults) old new told Where change
  changes_where Where fits = record {
    leaves = all_leave _ (λ r trees stands is_fit. stands (fits r is_fit));
    lasts = all_last;
    counts = counted_made made told (faults old) (faults new) is counts;
    told = λ r shows clean is_fit. undamaged_made made told is;
    failed = λ r shows clean. subst (λ s. IfErr told (λ e. ShowsIn r s)) (sym ends) (unmade_shown made told r before after is (it.commits.kept (subst IsClean ends clean)) (shown r shows));
    made = λ r shows clean is_fit. subst (λ s. IfOk told (λ x. ShowsIn (change r) s)) (sym ends) (made_shown made told (change r) after is (it.made (subst IsClean ends clean) r (shown r shows) (fits r is_fit)));
  }
