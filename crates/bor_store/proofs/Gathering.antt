-- The days of interests, gathered one by one.
use Rattle.std.proofs.Common.{◌≡◌, ◌+◌, ◌<◌, ℕ, zero, suc, List, [], ◌∷◌, ◌++◌, take, length, get_or, append_assoc, append-nil, refl, sym, ap, ap₂, ◌∙◌, arith, flat_map}
use Rattle.bods_read.specs.declared.interest.Interest.{Interest}
use Rattle.bods_read.specs.declared.statement.Statement.{Statement}
use Rattle.bor_store_sql.specs.Rows.Placed.{interest_rows, interests_from, period_rows, placed_from}
use Rattle.bor_store_sql.specs.declared.rows.places.At.{At}
use Rattle.bor_store_sql.specs.declared.rows.typed.InterestRow.{InterestRow}
use Rattle.bor_store_sql.specs.declared.rows.typed.PeriodRow.{PeriodRow}
use Rattle.bor_store_sql.specs.Fitting.{standing}
use Rattle.bor_store.specs.Migrating.{interest_days}

-- ---- one after the other

module _ {X Y : Type 0} (make : ℕ → X → List Y) (from : ℕ → List X → List Y) (none : (n : ℕ) → from n [] ≡ []) (some : (n : ℕ) (x : X) (xs : List X) → from n (x ∷ xs) ≡ make n x ++ from (n + 1) xs) where
  gathered_more : (n i : ℕ) (xs : List X) (x : X) → i < length xs → x ≡ get_or xs i x → from n (take i xs) ++ make (n + i) x ≡ from n (take (i + 1) xs)
  gathered_more n i [] x lt is = absurd (omega (arith, lt))
  gathered_more n zero (y ∷ xs) x lt is =
      ap₂ (λ l r. l ++ r) (none n) (ap₂ make (omega arith) is)
      ∙ sym (some n y [] ∙ ap (λ l. make n y ++ l) (none (n + 1)) ∙ append-nil (make n y))
  gathered_more n (suc i) (y ∷ xs) x lt is =
      let more = gathered_more (n + 1) i xs x (omega (arith, lt)) is in
      let here : n + suc i ≡ (n + 1) + i = omega arith in
      let next : suc i + 1 ≡ suc (i + 1) = omega arith in
      ap₂ (λ l k. l ++ make k x) (some n y (take i xs)) here
      ∙ append_assoc (make n y) (from (n + 1) (take i xs)) (make ((n + 1) + i) x)
      ∙ ap (λ l. make n y ++ l) more
      ∙ sym (ap (λ k. from n (take k (y ∷ xs))) next ∙ some n y (take (i + 1) xs))

  pub gathered_on : (before so_far after : List Y) (i n : ℕ) (xs : List X) (x : X) → i < length xs → x ≡ get_or xs i x → n ≡ i + 1 → so_far ≡ before ++ from 1 (take i xs) → after ≡ so_far ++ make n x
      → after ≡ before ++ from 1 (take (i + 1) xs)
  gathered_on before so_far after i n xs x lt is e first next =
      let at : n ≡ 1 + i = omega (arith, e) in
      next ∙ ap₂ (λ l k. l ++ make k x) first at ∙ append_assoc before (from 1 (take i xs)) (make (1 + i) x) ∙ ap (λ l. before ++ l) (gathered_more 1 i xs x lt is)

abbrev interest_at : At → ℕ → Interest → InterestRow
interest_at at n x = record { at = at; item = n; interest = x }

pub interest_gathered : (at : At) (before so_far after : List PeriodRow) (i n : ℕ) (xs : List Interest) (x : Interest) → i < length xs → x ≡ get_or xs i x → n ≡ i + 1
    → so_far ≡ before ++ flat_map period_rows (interests_from at 1 (take i xs)) → after ≡ so_far ++ period_rows (record { at = at; item = n; interest = x })
    → after ≡ before ++ flat_map period_rows (interests_from at 1 (take (i + 1) xs))
interest_gathered at = gathered_on (λ n x. period_rows (interest_at at n x)) (λ n xs. flat_map period_rows (interests_from at n xs)) (λ n. refl) (λ n x xs. refl)

-- the days of the interests of a statement at a place
abbrev pub days_at : List ℕ → ℕ → ℕ → Statement → List PeriodRow
days_at agent filing place s = flat_map period_rows (interest_rows (standing agent filing place s))

pub statement_gathered : (agent : List ℕ) (filing : ℕ) (before so_far after : List PeriodRow) (i n : ℕ) (xs : List Statement) (x : Statement) → i < length xs → x ≡ get_or xs i x → n ≡ i + 1
    → so_far ≡ before ++ interest_days (placed_from agent filing 1 (take i xs))
    → after ≡ so_far ++ days_at agent filing n x
    → after ≡ before ++ interest_days (placed_from agent filing 1 (take (i + 1) xs))
statement_gathered agent filing = gathered_on (days_at agent filing) (λ n ss. interest_days (placed_from agent filing n ss)) (λ n. refl) (λ n x xs. refl)
