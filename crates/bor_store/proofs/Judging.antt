-- The answers on tables, and on a move of them, by the rows of their versions.
use Rattle.std.proofs.Common.{◌≡◌, ◌≢◌, ◌⊎◌, inl, inr, ℤ, pos, Bool, true, false, List, Some, None, Result, Ok, Err, IsTrue, MatchResult, IfErr, true≢false, refl, sym, subst, ap, ◌∙◌, arith, if◌then◌else◌, Option, Vec, IsErrAnd, Global}
use Rattle.std.proofs.lemmas.Int.{ints}
use Rattle.sqlite.specs.Effect.{Database}
use Rattle.sqlite.specs.Order.{Row}
use Rattle.sqlite.specs.Schema.{Schema}
use Rattle.sqlite.specs.State.{State}
use Rattle.bor_store.specs.declared.open_fault.OpenFault.{OpenFault}
use Rattle.bor_store.specs.declared.open_fault.OpenFault.TheVariants as faults
use Rattle.sqlite.specs.declared.error.Error.{Error}
use Rattle.bor_store_reads.specs.Answering.{wants_memory}
use Rattle.bor_store.specs.Opening.{IsFailure, IsJudged, IsRegister, Judges, RefusesFirst, open_fault_of, has_all, version_in, AreVersions, has_first, is_period_used}
use Rattle.bor_store.proofs.Adopting.{versions_same}
use Rattle.bor_register.specs.Register.{Register}
use Rattle.bor_store_sql.specs.declared.rows.typed.PeriodRow.{PeriodRow}
use Rattle.bor_store_reads.specs.declared.fault.ReadError.{ReadError}
use Rattle.bor_store_reads.specs.declared.fault.ReadError.TheVariants as errors
use Rattle.bor_store.specs.Migrating.{FilesSay, GathersAll, IsMoveJudged, IsVersionJudged, Migrates, RefusesMove, TellsMove, TellsVersion, of_read}

told_memory : (is : Bool) → IsFailure (if is then faults.Memory else faults.Store)
told_memory true = inl refl
told_memory false = inr refl

-- an error of the store is told as want of memory or a store that failed
pub fault_fails : (error : Error) → IsFailure (open_fault_of error)
fault_fails error = told_memory (wants_memory error)

-- rows that tell a version are not read for want of memory alone
pub failure_of : (fault : OpenFault) (rows : List Row) (version : ℤ) → version_in rows ≡ Some version → IsFailure fault ⊎ ((fault ≡ faults.NoRegister) × (version_in rows ≡ None)) → IsFailure fault
failure_of fault rows version told (inl failure) = failure
failure_of fault rows version told (inr h) = absurd (let a = told in let b = h.1 in cc)

pub told_once : (version other : ℤ) (rows : List Row) → version_in rows ≡ Some version → version_in rows ≡ Some other → version ≡ other
told_once version other rows told also = let a = told in let b = also in cc

not_both : (version : ℤ) → version ≡ pos 1 → version ≡ pos 2 → ⊥
not_both version one two = let same : pos 1 ≡ pos 2 = sym one ∙ two in omega (arith, ints, same)

-- version 2 with all columns is not refused
pub judge_shown : {X : Type 0} (result : Result X OpenFault) (version : ℤ) (is_whole : Bool)
    → MatchResult result (λ _. (version ≡ pos 2) × IsTrue is_whole) (λ fault. ((fault ≡ faults.OtherVersion version) × (version ≢ pos 2)) ⊎ ((fault ≡ faults.NoRegister) × (version ≡ pos 2) × (is_whole ≡ false)))
    → version ≡ pos 2 → is_whole ≡ true → IfErr result IsFailure
judge_shown (Ok x) version is_whole h two whole = tt
judge_shown (Err fault) version is_whole (inl h) two whole = absurd (h.1 two)
judge_shown (Err fault) version is_whole (inr h) two whole = absurd (true≢false (sym whole ∙ h.2))

-- version 1 is refused as such, whatever columns there are
pub judge_first : (result : Result (Unit {0}) OpenFault) (version : ℤ) (is_whole : Bool)
    → MatchResult result (λ _. (version ≡ pos 2) × IsTrue is_whole) (λ fault. ((fault ≡ faults.OtherVersion version) × (version ≢ pos 2)) ⊎ ((fault ≡ faults.NoRegister) × (version ≡ pos 2) × (is_whole ≡ false)))
    → version ≡ pos 1 → RefusesFirst result
judge_first (Ok x) version is_whole h one = absurd (not_both version one h.0)
judge_first (Err fault) version is_whole (inl h) one = inr (h.0 ∙ ap faults.OtherVersion one)
judge_first (Err fault) version is_whole (inr h) one = absurd (not_both version one h.1)

judges_told : (X Y : Type 0) (schema : Schema) (rows : List Row) (fault : OpenFault) → Judges {X = X} schema rows (Err fault) → Judges {X = Y} schema rows (Err fault)
judges_told X Y schema rows (faults.OtherVersion n) h = h
judges_told X Y schema rows fault h = h

abbrev pub refused : (X : Type 0) → OpenFault → Result X OpenFault
refused X fault = Err fault

pub fault_is : (X : Type 0) (fault other : OpenFault) → refused X fault ≡ refused X other → fault ≡ other
fault_is X fault other e = let it = e in cc

-- a refusal is judged alike, whatever is answered where there is none
pub judged_told : (X Y : Type 0) (s : State) (fault : OpenFault) → IsJudged s (refused X fault) → IsJudged s (refused Y fault)
judged_told X Y s fault (inl failure) = inl failure
judged_told X Y s fault (inr (inl bare)) = inr (inl (bare.0, ap (refused Y) (fault_is X fault faults.NoRegister bare.1)))
judged_told X Y s fault (inr (inr h)) = inr (inr (h.0, h.1, judges_told X Y s.now.schema h.0 fault h.2))

-- what is taken of a connection is a register's on one that is open and shows the same
pub taken_is : {X : Type 0} (old new : State) (x : X) → new.now ≡ old.now → IsTrue new.is_open → IsJudged {X = X} old (Ok x) → IsRegister new
taken_is old new x same up (inl failure) = absurd failure
taken_is old new x same up (inr (inl bare)) = absurd (let it = bare.1 in cc)
taken_is old new x same up (inr (inr h)) = record {
  rows = h.0;
  versions = versions_same old new h.0 same up h.1;
  version = h.2.0;
  whole = subst (λ (db : Database). IsTrue (has_all db.schema)) (sym same) h.2.1;
}

-- ---- which version

apart : (version : Option ℤ) → version ≡ Some (pos 1) → version ≡ Some (pos 2) → ⊥
apart version one two = let same : pos 1 ≡ pos 2 = cc in omega (arith, ints, same)

-- what is told of tables by their version: that memory is wanting or the store failed, or what the version says
abbrev pub Told : Option ℤ → Bool → Bool → Bool → Result Bool OpenFault → Type 0
Told version first used second result = IsErrAnd result IsFailure ⊎ TellsVersion version first used second result

module _ (version : Option ℤ) (first used second : Bool) where
  first_stands : (fault : OpenFault) → RefusesMove version first used second fault → version ≡ Some (pos 1) → first ≡ true → used ≡ false → ⊥
  first_stands (faults.OtherVersion n) h one whole free = let other = h.0 in let same : n ≡ pos 1 = cc in h.1 same
  first_stands faults.NoRegister (inl none) one whole free = cc
  first_stands faults.NoRegister (inr (inl h)) one whole free = true≢false (sym whole ∙ h.1)
  first_stands faults.NoRegister (inr (inr h)) one whole free = apart version one h.0
  first_stands faults.Taken h one whole free = true≢false (sym h.2 ∙ free)
  first_stands fault h one whole free = h

  -- tables of version 1 are told to be moved
  pub first_told : (result : Result Bool OpenFault) → Told version first used second result → version ≡ Some (pos 1) → first ≡ true → used ≡ false → MatchResult result (λ b. b ≡ true) IsFailure
  first_told (Ok true) h one whole free = refl
  first_told (Ok false) (inl h) one whole free = absurd h
  first_told (Ok false) (inr h) one whole free = absurd (apart version one h.0)
  first_told (Err fault) (inl failure) one whole free = failure
  first_told (Err fault) (inr h) one whole free = absurd (first_stands fault h one whole free)

  second_stands : (fault : OpenFault) → RefusesMove version first used second fault → version ≡ Some (pos 2) → second ≡ true → ⊥
  second_stands (faults.OtherVersion n) h two whole = let other = h.0 in let same : n ≡ pos 2 = cc in h.2 same
  second_stands faults.NoRegister (inl none) two whole = cc
  second_stands faults.NoRegister (inr (inl h)) two whole = apart version h.0 two
  second_stands faults.NoRegister (inr (inr h)) two whole = true≢false (sym whole ∙ h.1)
  second_stands faults.Taken h two whole = apart version h.0 two
  second_stands fault h two whole = h

  -- those of version 2 are told to stay
  pub second_told : (result : Result Bool OpenFault) → Told version first used second result → version ≡ Some (pos 2) → second ≡ true → MatchResult result (λ b. b ≡ false) IsFailure
  second_told (Ok false) h two whole = refl
  second_told (Ok true) (inl h) two whole = absurd h
  second_told (Ok true) (inr h) two whole = absurd (apart version h.0 two)
  second_told (Err fault) (inl failure) two whole = failure
  second_told (Err fault) (inr h) two whole = absurd (second_stands fault h two whole)

  pub taken_told : (result : Result Bool OpenFault) → Told version first used second result → result ≡ Err faults.Taken → IsTrue used
  taken_told result h e = go (subst (Told version first used second) e h)
    where
      go : Told version first used second (refused Bool faults.Taken) → IsTrue used
      go (inl (inl h)) = absurd (let it = h in cc)
      go (inl (inr h)) = absurd (let it = h in cc)
      go (inr h) = h.2

  told_refusal : (X Stays : Type 0) (fault : OpenFault) → RefusesMove version first used second fault → TellsMove Stays version first used second (refused X fault)
  told_refusal X Stays faults.Damaged h = absurd h
  told_refusal X Stays fault h = h

-- what is told of the version is told by the tables
pub version_judged : (s : State) (result : Result Bool OpenFault) (rows : List Row) (first used second : Bool) → AreVersions s rows → first ≡ has_first s.now.schema → used ≡ is_period_used s.now.schema → second ≡ has_all s.now.schema
    → Told (version_in rows) first used second result → IsVersionJudged s result
version_judged s result rows first used second versions f u a (inl failure) = inl failure
version_judged s result rows first used second versions f u a (inr h) =
    let schema = s.now.schema in
    inr (inr (
      rows,
      versions,
      subst (λ b. TellsVersion (version_in rows) (has_first schema) (is_period_used schema) b result) a
          (subst (λ b. TellsVersion (version_in rows) (has_first schema) b second result) u (subst (λ b. TellsVersion (version_in rows) b used second result) f h)),
    ))

-- ---- what is answered

-- a refusal of the tables is told as it is
pub move_refused : (X : Type 0) (s new : State) (fault : OpenFault) → IsVersionJudged s (refused Bool fault) → IsMoveJudged s new (refused X fault)
move_refused X s new fault (inl failure) = inl failure
move_refused X s new fault (inr (inl bare)) = inr (inl (bare.0, ap (refused X) (fault_is Bool fault faults.NoRegister bare.1)))
move_refused X s new fault (inr (inr h)) =
    inr (inr (h.0, h.1, told_refusal (version_in h.0) (has_first s.now.schema) (is_period_used s.now.schema) (has_all s.now.schema) X (new.committed ≡ s.committed) fault h.2))

-- tables of version 2 stay
pub move_stayed : {X : Type 0} (s new : State) (first : Bool) (x : X) → first ≡ false → IsVersionJudged s (Ok first) → new.committed ≡ s.committed → IsMoveJudged s new (Ok x)
move_stayed s new true x e h stays = absurd (true≢false e)
move_stayed s new false x e (inl h) stays = absurd h
move_stayed s new false x e (inr (inl h)) stays = absurd (let it = h.1 in cc)
move_stayed s new false x e (inr (inr h)) stays = inr (inr (h.0, h.1, inr (h.2, stays)))

-- those of version 1 are moved, or why not is told
pub move_made : {X : Type 0} (s new : State) (first : Bool) (result : Result X OpenFault) → first ≡ true → IsVersionJudged s (Ok first) → IfErr result (λ fault. IsFailure fault ⊎ (fault ≡ faults.Damaged)) → IsMoveJudged s new result
move_made s new false result e h told = absurd (true≢false (sym e))
move_made s new true result e (inl h) told = absurd h
move_made s new true result e (inr (inl h)) told = absurd (let it = h.1 in cc)
move_made s new true (Ok x) e (inr (inr h)) told = inr (inr (h.0, h.1, inl h.2))
move_made {X} s new true (Err fault) e (inr (inr h)) told = go told
  where
    go : IsFailure fault ⊎ (fault ≡ faults.Damaged) → IsMoveJudged s new (refused X fault)
    go (inl failure) = inl failure
    go (inr damaged) = subst (λ f. IsMoveJudged s new (refused X f)) (sym damaged) (inr (inr (h.0, h.1, h.2)))

pub never_taken : {X : Type 0} (P : Type 0) (result : Result X OpenFault) → IfErr result (λ fault. IsFailure fault ⊎ (fault ≡ faults.Damaged)) → result ≡ Err faults.Taken → P
never_taken {X} P result told e = go (subst (λ r. IfErr r (λ fault. IsFailure fault ⊎ (fault ≡ faults.Damaged))) e told)
  where
    go : IsFailure faults.Taken ⊎ (faults.Taken ≡ faults.Damaged) → P
    go (inl (inl h)) = absurd (let it = h in cc)
    go (inl (inr h)) = absurd (let it = h in cc)
    go (inr h) = absurd (let it = h in cc)

-- ---- the files

-- why the days of a register aren't gathered
pub failed_so : (Says Part : List PeriodRow → Type 0) (error : ReadError) (result : Result (Vec PeriodRow Global) ReadError) → (told : ReadError) × (result ≡ Err told) × (told ≡ error)
    → (((days : List PeriodRow) → Part days → ⊥) → (days : List PeriodRow) → Says days → ⊥) → (error ≡ errors.Damaged → (days : List PeriodRow) → Part days → ⊥) → GathersAll Says result
failed_so Says Part error result told follows h = subst (GathersAll Says) (sym told.1) (λ damaged. follows (h (sym told.2 ∙ damaged)))

pub read_told : (error : ReadError) → IsFailure (of_read error) ⊎ (of_read error ≡ faults.Damaged)
read_told errors.Memory = inl (inl refl)
read_told errors.Store = inl (inr refl)
read_told errors.Damaged = inr refl

pub read_failed : (X : Type 0) (r : Register) (new : State) (error : ReadError) → (error ≡ errors.Damaged → (days : List PeriodRow) → FilesSay r.members days → ⊥) → Migrates r new (refused X (of_read error))
read_failed X r new errors.Memory h = inl (inl refl)
read_failed X r new errors.Store h = inl (inr refl)
read_failed X r new errors.Damaged h = inr (refl, h refl)
