-- The rows that the loops over a statement's lists, and over statements, have added so far.
use Rattle.std.proofs.Common.{◌≡◌, zero, suc, arith, true, false, Option, ℤ, ℕ, ◌+◌, ◌<◌, ◌^◌, Result, IfOk, List, [], ◌∷◌, ◌++◌, map, take, length, get_or, append-nil, sym, ap, ap₂, ◌∙◌, append_assoc, is_some, ◌||◌, rules}
use Rattle.bods_read.specs.declared.statement.Statement.{Statement}
use Rattle.bods_read.specs.declared.details.Identifier.{Identifier}
use Rattle.bods_read.specs.declared.interest.Interest.{Interest}
use Rattle.bor_store_sql.specs.declared.rows.places.At.{At}
use Rattle.bor_store_sql.specs.declared.rows.typed.InterestRow.{InterestRow}
use Rattle.bor_store_sql.specs.Rows.Placed.{bare, interests_listed, identifiers_listed, interests_from, identifiers_from, if_said, period_of, placed_from}
use Rattle.bor_store_sql.specs.Rows.Encoding.{Contents, period_columns}
use Rattle.bor_store_sql.specs.Changing.{in_turn, with_interest, with_statement_row, with_period_row, with_period_rows, with_interest_rows, with_identifier_rows, with_one_placed, with_placed}
use Rattle.bor_store_sql.specs.Rows.Stored.{IsCounted}
use Rattle.bor_store_sql.specs.Fitting.{standing}

-- one element more
one_more_in_turn : {X : Type 0} (change : ℕ → X → Contents → Contents) (n i : ℕ) (xs : List X) (x : X) → i < length xs → x ≡ get_or xs i x → (t : Contents)
    → change (n + i) x (in_turn change n (take i xs) t) ≡ in_turn change n (take (i + 1) xs) t
one_more_in_turn change n i [] x lt is t = absurd (omega (arith, lt))
one_more_in_turn change n zero (y ∷ xs) x lt is t = ap₂ (λ k z. change k z t) (omega arith) is
one_more_in_turn change n (suc i) (y ∷ xs) x lt is t = search (rules, one_more_in_turn change (n + 1) i xs x)

pub next_in_turn : {X : Type 0} (change : ℕ → X → Contents → Contents) (i n : ℕ) (xs : List X) (x : X) → i < length xs → x ≡ get_or xs i x → n ≡ i + 1 → (t : Contents) → change n x (in_turn change 1 (take i xs) t) ≡ in_turn change 1 (take (i + 1) xs) t
next_in_turn change i n xs x lt is e t = search (rules, one_more_in_turn)

identifiers_in_turn : (at : At) (n : ℕ) (xs : List Identifier) (t : Contents) → in_turn (λ k x. with_identifier_rows (record { at = at; item = k; identifier = x } ∷ [])) n xs t ≡ with_identifier_rows (identifiers_from at n xs) t
identifiers_in_turn at n [] t = simp append-nil
identifiers_in_turn at n (x ∷ xs) t = identifiers_in_turn at (n + 1) xs (with_identifier_rows (record { at = at; item = n; identifier = x } ∷ []) t) ∙ simp append_assoc

interests_in_turn : (at : At) (n : ℕ) (xs : List Interest) (t : Contents)
    → in_turn (λ k x. with_interest (record { at = at; item = k; interest = x })) n xs t ≡ with_period_rows (interests_from at n xs) (with_interest_rows (interests_from at n xs) t)
interests_in_turn at n [] t = simp append-nil
interests_in_turn at n (x ∷ xs) t = interests_in_turn at (n + 1) xs (with_interest (record { at = at; item = n; interest = x }) t) ∙ simp append_assoc

pub placed_in_turn : (agent : List ℕ) (filing n : ℕ) (ss : List Statement) (t : Contents) → in_turn (λ place s. with_one_placed (standing agent filing place s)) n ss t ≡ with_placed (placed_from agent filing n ss) t
placed_in_turn agent filing n [] t = simp append-nil
placed_in_turn agent filing n (s ∷ ss) t = placed_in_turn agent filing (n + 1) ss (with_one_placed (standing agent filing n s) t) ∙ simp append_assoc

-- the rows of a statement, as its lists are put down
pub placed_at_once : (at : At) (s : Statement) (ids : List Identifier) (is : List Interest) → ids ≡ identifiers_listed s.details → is ≡ interests_listed s.details → (t : Contents)
    → in_turn (λ k x. with_interest (record { at = at; item = k; interest = x })) 1 is (in_turn (λ k x. with_identifier_rows (record { at = at; item = k; identifier = x } ∷ [])) 1 ids (with_statement_row (bare (record { at = at; statement = s })) t))
    ≡ with_one_placed (record { at = at; statement = s }) t
placed_at_once at s ids is same_ids same_is t = search (rules, interests_in_turn, identifiers_in_turn)

-- a statement whose lists are inserted is counted
pub counted : {E : Type 0} (s : Statement) (ids : List Identifier) (is : List Interest) (result : Result (Unit {0}) E) → ids ≡ identifiers_listed s.details → is ≡ interests_listed s.details → length ids < 2 ^ 32
    → IfOk result (λ x. length is < 2 ^ 32) → IfOk result (λ x. IsCounted s)
counted s ids is result same_ids same_is few_ids few = search rules

-- ---- the row of an interest's days

module _ (i : InterestRow) where
  pub said_one : (starts ends : Option ℤ) → (is_some starts || is_some ends) ≡ true → if_said (period_of i) starts ends ≡ period_of i ∷ []
  said_one starts ends e = search rules

  pub said_none : (starts ends : Option ℤ) → (is_some starts || is_some ends) ≡ false → if_said (period_of i) starts ends ≡ []
  said_none starts ends e = search rules

  pub one_said : (is_some i.interest.starts || is_some i.interest.ends) ≡ true → (t : Contents) → with_period_row (period_of i) t ≡ with_period_rows (i ∷ []) t
  one_said e t = ap (λ l. record t { periods = t.periods ++ (map period_columns l ++ []) }) (sym (said_one i.interest.starts i.interest.ends e))
