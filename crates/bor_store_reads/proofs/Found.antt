-- The answers from the rows that a query finds.
use Rattle.std.proofs.Common.{◌≡◌, ◌-◌, arith, ℕ, nat_le, List, [], ◌∷◌, map, min, take, drop, length, Bool, true, false, true≢false, not, cond, Vec, Option, Result, Ok, Err, IfOk, IsOk, OnOk, MatchResult, refl, sym, ap, subst, ◌∙◌, slice_get, Global, All, ◌==◌, ◌||◌, unwrap_or, length-drop, length-take}
use Rattle.std.specs.List.{filter, list_any}
use Rattle.std.proofs.lemmas.Bool.Decides.{nat_tests}
use Rattle.std.proofs.lemmas.List.{length-map}
use Rattle.std.proofs.lemmas.Result.{IfOk-weaker, MatchResult-weaker}
use Rattle.sqlite.specs.Order.{Row}
use Rattle.sqlite.specs.State.{State}
use Rattle.sqlite.specs.declared.error.Error.{Error}
use Rattle.bor_register.specs.Register.{Register}
use Rattle.bor_store_sql.specs.Rows.Stored.{IsStored}
use Rattle.bor_store_sql.specs.Rows.Encoding.{truth, contents}
use Rattle.bor_store_sql.specs.Shown.{Has, IsUp, ShowsIn, StaysUp}
use Rattle.bor_store_sql.specs.Found.{FindsRows}
use Rattle.bor_store_reads.specs.declared.fault.ReadError.{ReadError}
use Rattle.bor_store_reads.specs.Answering.{IsNoDamage, ReadsAs}

-- of rows that are those of formed values their values are told
abbrev pub TellsAll : {X : Type 0} → (X → Row) → (X → Type 0) → Result (Vec Row Global) Error → Result (Vec X Global) ReadError → Type 0
TellsAll {X} columns is_formed found result = (xs : List X) → IfOk found (λ rows. rows.items ≡ map columns xs) → All is_formed xs → MatchResult result (λ values. values.items ≡ xs) IsNoDamage

-- or the first of them
abbrev pub TellsFirst : {X : Type 0} → (X → Row) → (X → Type 0) → Result (Vec Row Global) Error → Result (Option X) ReadError → Type 0
TellsFirst {X} columns is_formed found result = (xs : List X) → IfOk found (λ rows. rows.items ≡ map columns xs) → All is_formed xs → MatchResult result (λ x. x ≡ slice_get xs 0) IsNoDamage

-- what is made of rows comes from a connection that is open
pub made_up : {Y : Type 0} {old new : State} {rows_of : Register → List Row} (found : Result (Vec Row Global) Error) (result : Result Y ReadError) → FindsRows ShowsIn old new found rows_of → OnOk result (IsOk found) → IfOk result (λ y. IsUp new)
made_up (Ok rows) (Ok y) finds is_ok = finds.up
made_up (Err e) (Ok y) finds is_ok = absurd (true≢false (sym is_ok))
made_up found (Err e) finds is_ok = tt

-- whether there are any is told
abbrev pub TellsAny : Result (Vec Row Global) Error → Result Bool ReadError → Type 0
TellsAny found result = (xs : List Row) → IfOk found (λ rows. rows.items ≡ xs) → MatchResult result (λ any. any ≡ not (length xs == 0)) IsNoDamage

-- the first row's truth value is told
abbrev pub TellsFlag : Result (Vec Row Global) Error → Result Bool ReadError → Type 0
TellsFlag found result = (bs : List Bool) → IfOk found (λ rows. rows.items ≡ map (λ b. truth b ∷ []) bs) → MatchResult result (λ flag. flag ≡ unwrap_or (slice_get bs 0) false) IsNoDamage

module _ {old new : State} {found : Result (Vec Row Global) Error} {rows_of : Register → List Row} (finds : FindsRows ShowsIn old new found rows_of) where
  -- what is told of the rows
  rows_told : {Y : Type 0} {result : Result Y ReadError} (P : Register → Y → Type 0) → OnOk result (IsOk found) → ((r : Register) → IsStored r → IfOk found (λ rows. rows.items ≡ rows_of r) → MatchResult result (P r) IsNoDamage) → ReadsAs old new result P
  rows_told {result = result} P is_ok h = record {
    reads = finds.reads;
    up = IfOk-weaker result (λ y. IsUp new) (λ y. StaysUp old new) (λ y up clean was. up clean) (made_up found result finds is_ok);
    answer = λ clean r shows. h r shows.stored (finds.rows clean r shows);
  }

  module _ {X : Type 0} (columns : X → Row) (is_formed : X → Type 0) where
    -- of rows that are those of formed values
    told : {Y : Type 0} {result : Result Y ReadError} (Q : List X → Y → Type 0) (xs_of : Register → List X) → ((r : Register) → rows_of r ≡ map columns (xs_of r)) → ((r : Register) → IsStored r → All is_formed (xs_of r))
        → ((xs : List X) → IfOk found (λ rows. rows.items ≡ map columns xs) → All is_formed xs → MatchResult result (Q xs) IsNoDamage) → OnOk result (IsOk found) → ReadsAs old new result (λ r. Q (xs_of r))
    told Q xs_of are formed h is_ok = rows_told (λ r. Q (xs_of r)) is_ok (λ r stored rows. h (xs_of r) (subst (λ l. IfOk found (λ rows. rows.items ≡ l)) (are r) rows) (formed r stored))

    pub all_told : {xs_of : Register → List X} {result : Result (Vec X Global) ReadError} → ((r : Register) → rows_of r ≡ map columns (xs_of r)) → ((r : Register) → IsStored r → All is_formed (xs_of r))
        → TellsAll columns is_formed found result → OnOk result (IsOk found) → ReadsAs old new result (λ r values. values.items ≡ xs_of r)
    all_told {xs_of} are formed h is_ok = told (λ xs values. values.items ≡ xs) xs_of are formed h is_ok

    pub first_told : {result : Result (Option X) ReadError} (xs_of : Register → List X) → ((r : Register) → rows_of r ≡ map columns (xs_of r)) → ((r : Register) → IsStored r → All is_formed (xs_of r))
        → TellsFirst columns is_formed found result → OnOk result (IsOk found) → ReadsAs old new result (λ r x. x ≡ slice_get (xs_of r) 0)
    first_told xs_of are formed h is_ok = told (λ xs x. x ≡ slice_get xs 0) xs_of are formed h is_ok

  module _ {result : Result Bool ReadError} {has : Register → Bool} where
    -- what is told of whether rows are found
    pub told_any : ((r : Register) → not (length (rows_of r) == 0) ≡ has r) → TellsAny found result → OnOk result (IsOk found) → ReadsAs old new result (λ r any. any ≡ has r)
    told_any is h is_ok = rows_told (λ r any. any ≡ has r) is_ok (λ r stored rows. subst (λ b. MatchResult result (λ any. any ≡ b) IsNoDamage) (is r) (h (rows_of r) rows))

    -- what is told of the first row's truth value
    pub told_flag : (bs_of : Register → List Bool) → ((r : Register) → rows_of r ≡ map (λ b. truth b ∷ []) (bs_of r)) → ((r : Register) → unwrap_or (slice_get (bs_of r) 0) false ≡ has r)
        → TellsFlag found result → OnOk result (IsOk found) → ReadsAs old new result (λ r flag. flag ≡ has r)
    told_flag bs_of are is h is_ok = rows_told (λ r flag. flag ≡ has r) is_ok
        (λ r stored rows. subst (λ b. MatchResult result (λ flag. flag ≡ b) IsNoDamage) (is r) (h (bs_of r) (subst (λ l. IfOk found (λ rows. rows.items ≡ l)) (are r) rows)))

pub answered : {X : Type 0} (result : Result X ReadError) (P Q : X → Type 0) → ((x : X) → P x → Q x) → MatchResult result P IsNoDamage → MatchResult result Q IsNoDamage
answered result P Q so h = MatchResult-weaker result h so (λ e whole. whole)

-- ---- counts

not_none : {X : Type 0} (x : X) (xs : List X) → not (length (x ∷ xs) == 0) ≡ true
not_none x xs = grind arith

pub any_left : {X Y : Type 0} (f : X → Y) (p : X → Bool) (xs : List X) → not (length (map f (filter p xs)) == 0) ≡ list_any p xs
any_left f p [] = refl
any_left f p (x ∷ xs) = elim (p x) as (λ b. not (length (map f (cond b (x ∷ filter p xs) (filter p xs))) == 0) ≡ (b || list_any p xs)) [ true ↦ not_none (f x) (map f (filter p xs)) | false ↦ any_left f p xs ]

after : (count n : ℕ) → not (min 1 (count - n) == 0) ≡ not (nat_le count n)
after count n = grind (arith, nat_tests)

-- one is found after so many where there are more
pub any_after : {X Y : Type 0} (f : X → Y) (n : ℕ) (xs : List X) → not (length (map f (take 1 (drop n xs))) == 0) ≡ not (nat_le (length xs) n)
any_after f n xs = ap (λ m. not (m == 0)) (length-map (take 1 (drop n xs)) f ∙ length-take 1 (drop n xs) ∙ ap (min 1) (length-drop n xs)) ∙ after (length xs) n

-- ---- what is shown

-- a read leaves what is shown
pub still_shows : (r : Register) (old new : State) → new.committed ≡ old.committed → ShowsIn r old → ShowsIn r new
still_shows r old new same shows = record { has = subst (Has (contents r)) (sym same) shows.has; stored = shows.stored }
