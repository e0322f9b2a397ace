-- Rows that are read one by one, and split.
use Rattle.std.specs.List.{AllByRecursion}
use Rattle.std.proofs.Common.{◌≡◌, ℕ, ◌+◌, ◌<◌, Bool, true, false, List, [], ◌∷◌, ◌++◌, length, drop, slice_index_or, map, append-nil, append_assoc, add-one, refl, sym, ap, ◌∙◌, zero, suc, get_or, true≢false, take, arith, drop-cons, All, slice_get, Some, Result, IsErrAnd, rules}
use Rattle.std.proofs.lemmas.List.Elements.{All-head, All-tail}
use Rattle.bor_store_sql.specs.declared.rows.fault.RowFault.{RowFault}
use Rattle.bor_store_sql.specs.declared.rows.fault.RowFault.TheVariants.{Memory}
use Rattle.bor_store_sql.specs.Rows.Reading.{IsRead}

-- where there are no rows there are no values
pub no_values : {X R : Type 0} (columns : X → R) (xs : List X) → map columns xs ≡ [] → xs ≡ []
no_values columns [] none = refl
no_values columns (x ∷ xs) none = absurd cc

module _ {X R : Type 0} (columns : X → R) (is_formed : X → Type 0) where
  -- some values are read of all, and the rows are those of the others
  pub record ToRead (all out : List X) (rows : List R) : Type 0 where
    pub left : List X
    pub whole : out ++ left ≡ all
    pub rows_are : rows ≡ map columns left
    pub formed : All is_formed left

  pub one_read : (all out : List X) (row : R) (rows : List R) (x : X) → ToRead all out (row ∷ rows) → ((y : X) → row ≡ columns y → is_formed y → x ≡ y) → ToRead all (out ++ x ∷ []) rows
  one_read all out row rows x l reads = go l.left l.whole l.rows_are l.formed
    where
      go : (left : List X) → out ++ left ≡ all → row ∷ rows ≡ map columns left → All is_formed left → ToRead all (out ++ x ∷ []) rows
      go [] whole e h = absurd cc
      go (y ∷ left) whole e h =
          let here : row ≡ columns y = cc in
          let rest : rows ≡ map columns left = cc in
          let it : x ≡ y = reads y here (All-head is_formed y left h) in
          record {
            left = left;
            whole = append_assoc out (x ∷ []) left ∙ ap (λ z. out ++ z ∷ left) it ∙ whole;
            rows_are = rest;
            formed = All-tail is_formed y left h;
          }

  pub all_read : (all out : List X) → ToRead all out [] → out ≡ all
  all_read all out l = sym (append-nil out) ∙ ap (λ left. out ++ left) (sym (no_values columns l.left (sym l.rows_are))) ∙ l.whole

  -- the next row is that of a value
  pub next_read : (all out : List X) (row : R) (rows : List R) (Q : Type 0) → ToRead all out (row ∷ rows) → ((y : X) → row ≡ columns y → is_formed y → Q) → Q
  next_read all out row rows Q l reads = go l.left l.rows_are l.formed
    where
      go : (left : List X) → row ∷ rows ≡ map columns left → All is_formed left → Q
      go [] e h = absurd cc
      go (y ∷ left) e h = let here : row ≡ columns y = cc in reads y here (All-head is_formed y left h)

pub next_row : {R : Type 0} (rows : List R) (i : ℕ) (row d : R) → i < length rows → slice_index_or rows i d ≡ row → drop i rows ≡ row ∷ drop (i + 1) rows
next_row rows i row d low is = drop-cons rows i d low ∙ rw (is, add-one) refl

-- where memory is wanting for a part of a value, it is for the value
pub not_read : {X : Type 0} {fault : RowFault} (result : Result X RowFault) (x : X) → IsErrAnd result (λ e. e ≡ fault) → fault ≡ Memory → IsRead result x
not_read result x fails wanting = search rules

-- the first row is that of a value
pub first_read : {X R : Type 0} (columns : X → R) (is_formed : X → Type 0) (rows : List R) (xs : List X) (row : R) (Q : Type 0) → slice_get rows 0 ≡ Some row → rows ≡ map columns xs → All is_formed xs
    → ((y : X) → row ≡ columns y → is_formed y → Q) → Q
first_read columns is_formed rows [] row Q first e h reads = let none = sym (ap (λ l. slice_get l 0) e) ∙ first in absurd cc
first_read columns is_formed rows (y ∷ xs) row Q first e h reads = let here : row ≡ columns y = cc in reads y here (All-head is_formed y xs h)

-- rows are split into those of a key and those that follow
abbrev pub Splits : {R : Type 0} → (R → Bool) → List R → List R → List R → Type 0
Splits {R} is_own rows own rest = (mine more : List R) → rows ≡ mine ++ more → AllByRecursion (λ row. is_own row ≡ true) mine
    → AllByRecursion (λ row. is_own row ≡ false) more → (own ≡ mine) × (rest ≡ more)

-- ---- the first elements that pass a test, where those after them fail it

-- where the first that fails is reached, or the end
pub stops : {X : Type 0} (q : X → Bool) (mine more : List X) (i : ℕ) → AllByRecursion (λ x. q x ≡ true) mine → AllByRecursion (λ x. q x ≡ false) more → AllByRecursion (λ x. q x ≡ true) (take i (mine ++ more))
    → (i < length (mine ++ more) → (x : X) × (x ≡ get_or (mine ++ more) i x) × (q x ≡ false)) → (take i (mine ++ more) ≡ mine) × (drop i (mine ++ more) ≡ more)
stops q [] [] zero all none so stop = (refl, refl)
stops q [] [] (suc i) all none so stop = (refl, refl)
stops q [] (y ∷ more) zero all none so stop = (refl, refl)
stops q [] (y ∷ more) (suc i) all none so stop = absurd (true≢false (sym so.0 ∙ none.0))
stops q (x ∷ mine) more zero all none so stop = let it = stop (omega arith) in absurd (true≢false (sym all.0 ∙ ap q (sym it.1) ∙ it.2))
stops q (x ∷ mine) more (suc i) all none so stop = search (rules, stops q mine more i)
