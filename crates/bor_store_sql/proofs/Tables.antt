-- The rows that a table keeps under their rowids after a change, and the answer of a SELECT over it.
use Rattle.std.proofs.Common.{◌≡◌, ◌≤◌, ◌<◌, ℕ, Bool, true, false, map, filter, ◌+◌, ℤ, pos, ◌+ℤ◌, List, [], ◌∷◌, ◌++◌, fold, refl, sym, ap, subst, ◌∙◌, arith, Less, not, IsPermutation, cond, Greater, ◌^◌, flat_map, nat_le, Some, inl, inr, bytes_eq, if◌then◌else◌, negsuc, length, subst₂, is_eq, int_cmp, rules}
use Rattle.std.proofs.lemmas.Int.{ints}
use Rattle.std.proofs.lemmas.Bool.Decides.{nat_tests}
use Rattle.sqlite.specs.declared.types.Value.TheVariants.{Int, Text}
use Rattle.sqlite.specs.Order.{Row, value_cmp}
use Rattle.sqlite_trees.specs.Tree.{rowid, put_row, has_rowid, without_rowid, Trees}
use Rattle.sqlite_rules.specs.Edit.{id_in, next_rowid, without_all, put_all}
use Rattle.sqlite_value.proofs.OrderLemmas.{value_cmp-Int, value_cmp_total, value_cmp-Text}
use Rattle.bor_store_sql.specs.Kept.{AreRows, Keeps}
use Rattle.std.specs.List.{AllByRecursion, list_all}
use Rattle.std.proofs.lemmas.Cmp.{tied_itself}
use Rattle.sqlite_keyed.proofs.ListLemmas.{all-filter, all_map, along_permutation, filter_all, map-map, IsPermutation-filter}
use Rattle.bor_store_sql.proofs.OnRows.SeenPlaced.{filters_swap}
use Rattle.std.proofs.lemmas.Bool.{cases_Bool}
use Rattle.std.proofs.lemmas.Map.Text.{is_eq-slice_cmp}
use Rattle.sqlite.specs.Collation.TheVariants.{Binary}
use Rattle.sqlite_value.specs.declared.keys.Key.{Key}
use Rattle.sqlite_sql.specs.declared.ops.BinaryOp.TheVariants.{Compare}
use Rattle.sqlite_sql.specs.declared.ops.CompareOp.TheVariants.{Eq}
use Rattle.sqlite.specs.declared.types.Value.{Value}
use Rattle.sqlite.specs.Ops.{binary, from_truth, is_true}
use Rattle.sqlite.specs.Term.{Term, Env, holds, col, lit}
use Rattle.sqlite.specs.Query.{Query, IsAnswer, output, Output}
use Rattle.sqlite.specs.Program.{overlay}
use Rattle.bor_store_sql.specs.Texts.Queries.{table_query}
use Rattle.std.proofs.lemmas.List.{length-map}
use Rattle.std.proofs.lemmas.List.Sorted.{IsPermutation-map, IsPermutation-trans, IsPermutation-sym, IsPermutation-append_left, length_permutation}
use Rattle.sqlite_rules.specs.Calls.{ids_of}
use Rattle.sqlite.proofs.Callers.{one_permutation}

-- ---- a row that is put under the next rowid is the last

pub lower_id : (m n : ℕ) → m < n → value_cmp (Int (pos m)) (Int (pos n)) ≡ Less
lower_id m n h = value_cmp-Int (pos m) (pos n) ∙ grind (arith, ints, nat_tests)

abbrev next_from : ℤ → List Row → ℤ
next_from = fold (λ _ r. id_in (rowid r) +ℤ pos 1)

put_from : (low s : ℕ) (xs rows : List Row) (x : Row) → low ≤ s → AreRows low xs rows
    → (n : ℕ) × (next_from (pos s) rows ≡ pos n) × (low ≤ n) × AreRows low (xs ++ x ∷ []) (put_row (Int (pos n) ∷ x) rows)
put_from low s [] rows x h is = rw is (s, refl, h, (s, [], h, refl, refl))
put_from low s (y ∷ ys) rows x h is =
    let it = put_from (is.0 + 1) (is.0 + 1) ys is.1 x (omega arith) is.4 in
    let below : value_cmp (Int (pos is.0)) (Int (pos it.0)) ≡ Less = lower_id is.0 it.0 (omega arith) in
    let put : put_row (Int (pos it.0) ∷ x) ((Int (pos is.0) ∷ y) ∷ is.1) ≡ (Int (pos is.0) ∷ y) ∷ put_row (Int (pos it.0) ∷ x) is.1 = rw below refl in
    rw is.3 (it.0, it.1, omega arith, (is.0, put_row (Int (pos it.0) ∷ x) is.1, is.2, put, it.3))

pub put_last : (xs rows : List Row) (x : Row) → AreRows 1 xs rows → AreRows 1 (xs ++ x ∷ []) (put_row (Int (next_rowid rows) ∷ x) rows)
put_last xs rows x h =
    let it = put_from 1 1 xs rows x (omega arith) h in
    subst (λ n. AreRows 1 (xs ++ x ∷ []) (put_row (Int n ∷ x) rows)) (sym it.1) it.3

-- a filter and a map of the rows are those of what they hold
module _ {Y : Type 0} (p q : Row → Bool) (same_test : (id : ℕ) (x : Row) → p (Int (pos id) ∷ x) ≡ q x)
    (f g : Row → Y) (same_map : (id : ℕ) (x : Row) → f (Int (pos id) ∷ x) ≡ g x) where
  pub picked : (low : ℕ) (xs rows : List Row) → AreRows low xs rows → map f (filter p rows) ≡ map g (filter q xs)
  picked low [] rows is = rw is refl
  picked low (x ∷ xs) rows is = rw is.3 (go (q x) refl (picked (is.0 + 1) xs is.1 is.4))
    where
      go : (b : Bool) → q x ≡ b → map f (filter p is.1) ≡ map g (filter q xs) → map f (filter p ((Int (pos is.0) ∷ x) ∷ is.1)) ≡ map g (filter q (x ∷ xs))
      go true e more = rw (same_test is.0 x, e, same_map is.0 x) (ap (λ l. g x ∷ l) more)
      go false e more = rw (same_test is.0 x, e) more

-- ---- rows that are taken out by their rowids, and rows that are put back

-- the order of the rowids does not matter
pub any_order : (ids others : List ℤ) → IsPermutation ids others → (rows : List Row) → without_all rows ids ≡ without_all rows others
any_order ids others =
    along_permutation (λ xs ys. (rows : List Row) → without_all rows xs ≡ without_all rows ys) (λ xs rows. refl) (λ x xs ys more rows. more (without_rowid x rows))
    (λ x y xs rows. ap (λ l. without_all l xs) (filters_swap (λ r. not (has_rowid y r)) (λ r. not (has_rowid x r)) rows)) (λ xs ys zs one two rows. one rows ∙ two rows) ids others

abbrev pub ids_in : List Row → List ℤ
ids_in = map (λ r. id_in (rowid r))

pub itself : (id : ℕ) (x : Row) → has_rowid (pos id) (Int (pos id) ∷ x) ≡ true
itself id x = ap is_eq (tied_itself value_cmp_total (Int (pos id)))

other_id : (m n : ℕ) (x : Row) → m < n → has_rowid (pos m) (Int (pos n) ∷ x) ≡ false
other_id m n x h = ap is_eq (value_cmp-Int (pos n) (pos m)) ∙ grind (arith, ints, nat_tests)

apart : (m n : ℕ) (x : Row) → m < n → has_rowid (pos n) (Int (pos m) ∷ x) ≡ false
apart m n x h = ap is_eq (lower_id m n h)

-- what holds of each row whose rowid is no less than a number
pub each_row : (P : Row → Type 0) (low : ℕ) (xs rows : List Row) → AreRows low xs rows → ((id : ℕ) (x : Row) → low ≤ id → P (Int (pos id) ∷ x)) → AllByRecursion P rows
each_row P low [] rows is h = rw is tt
each_row P low (x ∷ xs) rows is h = rw is.3 (h is.0 x is.2, each_row P (is.0 + 1) xs is.1 is.4 (λ id y from. h id y (omega (arith, from))))

-- a rowid below those of the rows takes nothing out
pub spared : (low : ℕ) (xs rows : List Row) (id : ℕ) → id < low → AreRows low xs rows → without_rowid (pos id) rows ≡ rows
spared low xs rows id below is = filter_all (λ r. not (has_rowid (pos id) r)) rows (each_row (λ r. not (has_rowid (pos id) r) ≡ true) low xs rows is (λ n x from. ap not (other_id id n x (omega (arith, from, below)))))

weaker : (low high : ℕ) (xs rows : List Row) → low ≤ high → AreRows high xs rows → AreRows low xs rows
weaker low high [] rows h is = is
weaker low high (x ∷ xs) rows h is = (is.0, is.1, omega arith, is.3, is.4)

module _ (p : Row → Bool) where
  pub later : (low : ℕ) (xs rows : List Row) (id : ℕ) (x : Row) → id < low → AreRows low xs rows → AllByRecursion (λ z. has_rowid z (Int (pos id) ∷ x) ≡ false) (ids_in (filter p rows))
  later low xs rows id x below is =
      all_map (λ z. has_rowid z (Int (pos id) ∷ x) ≡ false) (λ r. id_in (rowid r)) (filter p rows) (all-filter (λ r. has_rowid (id_in (rowid r)) (Int (pos id) ∷ x) ≡ false) p rows
      (each_row (λ r. has_rowid (id_in (rowid r)) (Int (pos id) ∷ x) ≡ false) low xs rows is (λ n y from. apart id n x (omega (arith, from, below)))))

  pub keeps_head : (ids : List ℤ) (r : Row) (rows : List Row) → AllByRecursion (λ z. has_rowid z r ≡ false) ids → without_all (r ∷ rows) ids ≡ r ∷ without_all rows ids
  keeps_head [] r rows all = refl
  keeps_head (z ∷ ids) r rows all = rw all.0 (keeps_head ids r (without_rowid z rows) all.1)

  -- the rows that pass a test are taken out
  module _ (q : Row → Bool) (same_test : (id : ℕ) (x : Row) → p (Int (pos id) ∷ x) ≡ q x) where
    pub taken_out : (low : ℕ) (xs : List Row) (rows : List Row) → AreRows low xs rows → AreRows low (filter (λ x. not (q x)) xs) (without_all rows (ids_in (filter p rows)))
    taken_out low [] rows is = rw is refl
    taken_out low (x ∷ xs) rows is = rw is.3 (go (q x) refl (taken_out (is.0 + 1) xs is.1 is.4))
      where
        r : Row
        r = Int (pos is.0) ∷ x

        go : (b : Bool) → q x ≡ b → AreRows (is.0 + 1) (filter (λ x. not (q x)) xs) (without_all is.1 (ids_in (filter p is.1)))
            → AreRows low (filter (λ x. not (q x)) (x ∷ xs)) (without_all ((Int (pos is.0) ∷ x) ∷ is.1) (ids_in (filter p ((Int (pos is.0) ∷ x) ∷ is.1))))
        go true e more =
            let ids = ids_in (filter p is.1) in
            let first : without_rowid (pos is.0) (r ∷ is.1) ≡ is.1 = rw (itself is.0 x) (spared (is.0 + 1) xs is.1 is.0 (omega arith) is.4) in
            let step : without_all (r ∷ is.1) (pos is.0 ∷ ids) ≡ without_all is.1 ids = ap (λ l. without_all l ids) first in
            rw (same_test is.0 x, e) (subst (AreRows low (filter (λ y. not (q y)) xs)) (sym step) (weaker low (is.0 + 1) _ _ (omega arith) more))
        go false e more =
            let ids = ids_in (filter p is.1) in
            let step : without_all (r ∷ is.1) ids ≡ r ∷ without_all is.1 ids = keeps_head ids r is.1 (later (is.0 + 1) xs is.1 is.0 x (omega arith) is.4) in
            rw (same_test is.0 x, e) (subst (AreRows low (x ∷ filter (λ y. not (q y)) xs)) (sym step) (is.0, without_all is.1 ids, is.2, refl, more))

-- ---- rows that are taken out and put back changed, in order

higher_id : (m n : ℕ) → m < n → value_cmp (Int (pos n)) (Int (pos m)) ≡ Greater
higher_id m n h = value_cmp-Int (pos n) (pos m) ∙ grind (arith, ints, nat_tests)

put_first : (id : ℕ) (y : Row) (ys rows : List Row) → AreRows (id + 1) ys rows → put_row (Int (pos id) ∷ y) rows ≡ (Int (pos id) ∷ y) ∷ rows
put_first id y [] rows is = rw is refl
put_first id y (x ∷ ys) rows is = rw is.3 (rw (higher_id id is.0 (omega arith)) refl)

puts_past : (r : Row) (rows news : List Row) → AllByRecursion (λ n. value_cmp (rowid r) (rowid n) ≡ Less) news → put_all (r ∷ rows) news ≡ r ∷ put_all rows news
puts_past r rows [] all = refl
puts_past r rows (n ∷ news) all = rw all.0 (puts_past r (put_row n rows) news all.1)

module _ (p q : Row → Bool) (same_test : (id : ℕ) (x : Row) → p (Int (pos id) ∷ x) ≡ q x)
    (f : Row → Row) (new_of : Row → Row) (same_new : (id : ℕ) (x : Row) → new_of (Int (pos id) ∷ x) ≡ Int (pos id) ∷ f x) where
  news_later : (low : ℕ) (xs : List Row) (rows : List Row) (id : ℕ) → id < low → AreRows low xs rows → AllByRecursion (λ n. value_cmp (Int (pos id)) (rowid n) ≡ Less) (map new_of (filter p rows))
  news_later low xs rows id below is =
      all_map (λ n. value_cmp (Int (pos id)) (rowid n) ≡ Less) new_of (filter p rows) (all-filter (λ r. value_cmp (Int (pos id)) (rowid (new_of r)) ≡ Less) p rows
      (each_row (λ r. value_cmp (Int (pos id)) (rowid (new_of r)) ≡ Less) low xs rows is (λ n x from. rw (same_new n x) (lower_id id n (omega (arith, from, below))))))

  pub put_back : (low : ℕ) (xs : List Row) (rows : List Row) → AreRows low xs rows
      → AreRows low (map (λ x. cond (q x) (f x) x) xs) (put_all (without_all rows (ids_in (filter p rows))) (map new_of (filter p rows)))
  put_back low [] rows is = rw is refl
  put_back low (x ∷ xs) rows is = rw is.3 (go (q x) refl (put_back (is.0 + 1) xs is.1 is.4))
    where
      r : Row
      r = Int (pos is.0) ∷ x

      ids : List ℤ
      ids = ids_in (filter p is.1)

      news : List Row
      news = map new_of (filter p is.1)

      go : (b : Bool) → q x ≡ b → AreRows (is.0 + 1) (map (λ x. cond (q x) (f x) x) xs) (put_all (without_all is.1 (ids_in (filter p is.1))) (map new_of (filter p is.1)))
          → AreRows low (map (λ x. cond (q x) (f x) x) (x ∷ xs))
          (put_all (without_all ((Int (pos is.0) ∷ x) ∷ is.1) (ids_in (filter p ((Int (pos is.0) ∷ x) ∷ is.1)))) (map new_of (filter p ((Int (pos is.0) ∷ x) ∷ is.1))))
      go true e more =
          let new : Row = Int (pos is.0) ∷ f x in
          let left : List Row = without_all is.1 ids in
          let first : without_rowid (pos is.0) (r ∷ is.1) ≡ is.1 = rw (itself is.0 x) (spared (is.0 + 1) xs is.1 is.0 (omega arith) is.4) in
          let gone : without_all (r ∷ is.1) (pos is.0 ∷ ids) ≡ left = ap (λ l. without_all l ids) first in
          let here : put_row new left ≡ new ∷ left = put_first is.0 (f x) _ left (taken_out p q same_test (is.0 + 1) xs is.1 is.4) in
          let all : put_all (without_all (r ∷ is.1) (pos is.0 ∷ ids)) (new ∷ news) ≡ new ∷ put_all left news =
          ap (λ l. put_all l (new ∷ news)) gone ∙ ap (λ l. put_all l news) here ∙ puts_past new left news (news_later (is.0 + 1) xs is.1 is.0 (omega arith) is.4) in
          rw (same_test is.0 x, e, same_new is.0 x) (subst (AreRows low (f x ∷ map (λ y. cond (q y) (f y) y) xs)) (sym all) (is.0, put_all left news, is.2, refl, more))
      go false e more =
          let left : List Row = without_all is.1 ids in
          let gone : without_all (r ∷ is.1) ids ≡ r ∷ left = keeps_head p ids r is.1 (later p (is.0 + 1) xs is.1 is.0 x (omega arith) is.4) in
          let all : put_all (without_all (r ∷ is.1) ids) news ≡ r ∷ put_all left news =
          ap (λ l. put_all l news) gone ∙ puts_past r left news (news_later (is.0 + 1) xs is.1 is.0 (omega arith) is.4) in
          rw (same_test is.0 x, e) (subst (AreRows low (x ∷ map (λ y. cond (q y) (f y) y) xs)) (sym all) (is.0, put_all left news, is.2, refl, more))

-- ---- the answer of a SELECT over one table

truth_back : (b : Bool) → is_true (from_truth (Some b)) ≡ b
truth_back b = search rules

-- whether `=` holds of two values
abbrev pub are_equal : Value → Value → Bool
are_equal a b = is_true (binary (Compare Eq Binary) a b)

-- an equality of texts
pub text_test : (a b : List ℕ) → are_equal (Text a) (Text b) ≡ bytes_eq a b
unfolding binary
text_test a b = truth_back (is_eq (value_cmp (Text a) (Text b))) ∙ ap is_eq (value_cmp-Text a b) ∙ is_eq-slice_cmp a b

module _ (t : ℕ) (tests : List Term) (params : Row) where
  abbrev pub env : Row → Env
  env r = params ∷ r ∷ []

  abbrev pub keeps : Row → Bool
  keeps r = list_all (holds (env r)) tests

  met : (rows : List Row) → flat_map (λ r. if list_all (holds (env r)) tests then env r ∷ [] else []) rows ≡ map env (filter keeps rows)
  met [] = refl
  met (r ∷ rows) = elim (cases_Bool (keeps r)) [ inl e ↦ rw e (ap (λ l. env r ∷ l) (met rows)) | inr e ↦ rw e (met rows) ]

  module _ (project : List Term) (order : List (Term × Key)) (limit offset : Term) where
    -- a query over the rows of the tree, of whose answer this part is shown
    abbrev pub paged : Query
    paged = record (table_query t tests project order) { limit = limit; offset = offset }

    -- it puts in order what it has of the rows that pass the tests
    pub put_in_order : nat_le (2 ^ 31) t ≡ false → (db : Trees) (rows : List Row) (a : IsAnswer paged (overlay db []) params rows) → IsPermutation (map (output paged) (map env (filter keeps (db t)))) a.ordered
    put_in_order low db rows a =
        let staged : a.staged ≡ map env (filter keeps (db t)) = a.grouped ∙ rw low (met (db t)) in
        subst (λ k. IsPermutation k a.ordered) (a.distinct ∙ ap (map (output paged)) staged) a.same

-- an equality of integers
pub int_test : (m n : ℤ) → are_equal (Int m) (Int n) ≡ is_eq (int_cmp m n)
unfolding binary
int_test m n = truth_back (is_eq (value_cmp (Int m) (Int n))) ∙ ap is_eq (value_cmp-Int m n)

-- ---- the rows that a table keeps after a change: changes

pub one_more : (xs rows : List Row) (x : Row) → Keeps xs rows → Keeps (xs ++ x ∷ []) (put_row (Int (next_rowid rows) ∷ x) rows)
one_more xs rows x k = record {
  stored = k.stored ++ x ∷ [];
  under = put_last k.stored rows x k.under;
  same = IsPermutation-append_left (x ∷ []) k.stored xs k.same;
}

pub in_order : (xs ys rows : List Row) → IsPermutation xs ys → Keeps xs rows → Keeps ys rows
in_order xs ys rows same k = record { stored = k.stored; under = k.under; same = IsPermutation-trans _ _ _ k.same same }

none_permutation : {X : Type 0} (ys : List X) → IsPermutation [] ys → ys ≡ []
none_permutation [] h = refl
none_permutation (y ∷ ys) h = absurd (let e = length_permutation [] (y ∷ ys) h in omega (arith, e))

-- a permutation of at most one element is itself
at_most_one : {X : Type 0} (xs ys : List X) → length xs ≤ 1 → IsPermutation xs ys → ys ≡ xs
at_most_one [] ys few h = none_permutation ys h
at_most_one (x ∷ []) ys few h = one_permutation x ys h
at_most_one (x ∷ y ∷ xs) ys few h = absurd (omega (arith, few))

-- ---- a query

module _ (t : ℕ) (low : nat_le (2 ^ 31) t ≡ false) (tests : List Term) (params : Row) (q : Row → Bool) (same_test : (id : ℕ) (x : Row) → keeps t tests params (Int (pos id) ∷ x) ≡ q x)
    (project : List Term) (order : List (Term × Key)) (limit offset : Term) where
  abbrev asked : Query
  asked = paged t tests params project order limit offset

  -- it puts in order what it shows of the rows that pass
  pub come : (shown : Row → Output) → ((id : ℕ) (x : Row) → output asked (env t tests params (Int (pos id) ∷ x)) ≡ shown x) → (db : Trees) (xs rows : List Row) → Keeps xs (db t) → (a : IsAnswer asked (overlay db []) params rows)
      → IsPermutation (map shown (filter q xs)) a.ordered
  come shown same_out db xs rows k a =
      let outs : map (output asked) (map (env t tests params) (filter (keeps t tests params) (db t))) ≡ map shown (filter q k.stored) =
      map-map (output asked) (env t tests params) _ ∙ picked (keeps t tests params) q same_test _ shown same_out 1 k.stored (db t) k.under in
      let back : IsPermutation (map shown (filter q xs)) (map shown (filter q k.stored)) = IsPermutation-sym _ _ (IsPermutation-map shown _ _ (IsPermutation-filter q k.stored xs k.same)) in
      IsPermutation-trans _ _ _ back (subst (λ l. IsPermutation l a.ordered) outs (put_in_order t tests params project order limit offset low db rows a))

-- ---- a deletion and an update, by what their queries answer

module _ (t : ℕ) (low : nat_le (2 ^ 31) t ≡ false) (tests : List Term) (params : Row) (q : Row → Bool) (same_test : (id : ℕ) (x : Row) → keeps t tests params (Int (pos id) ∷ x) ≡ q x) where
  abbrev shown_id : Output → ℤ
  shown_id o = id_in (rowid o.1)

  pub deleted : (db : Trees) (xs rows left : List Row) → Keeps xs (db t) → IsAnswer (table_query t tests (col 1 0 ∷ []) []) (overlay db []) params rows
      → left ≡ without_all (db t) (ids_of rows) → Keeps (filter (λ x. not (q x)) xs) left
  deleted db xs rows left k a is =
      let body = table_query t tests (col 1 0 ∷ []) [] in
      let found = filter (keeps t tests params) (db t) in
      let ids : map shown_id (map (output body) (map (env t tests params) found)) ≡ ids_of found = map-map shown_id (output body) _ ∙ map-map (λ e. shown_id (output body e)) (env t tests params) found in
      let all : rows ≡ map (λ (o : Output). o.1) a.ordered = a.shown in
      let theirs : ids_of rows ≡ map shown_id a.ordered = ap ids_of all ∙ map-map (λ x. id_in (rowid x)) (λ (o : Output). o.1) a.ordered in
      let perm : IsPermutation (ids_of found) (ids_of rows) = subst₂ IsPermutation ids (sym theirs) (IsPermutation-map shown_id _ a.ordered (put_in_order t tests params (col 1 0 ∷ []) [] (lit (Int (negsuc 0))) (lit (Int (pos 0))) low db rows a)) in
      let gone : left ≡ without_all (db t) (ids_of found) = is ∙ sym (any_order _ _ perm (db t)) in
      record {
        stored = filter (λ x. not (q x)) k.stored;
        under = subst (AreRows 1 (filter (λ x. not (q x)) k.stored)) (sym gone) (taken_out (keeps t tests params) q same_test 1 k.stored (db t) k.under);
        same = IsPermutation-filter (λ x. not (q x)) k.stored xs k.same;
      }

  -- an update of at most one row
  module _ (project : List Term) (written : Row → Row) (new_of : Row → Row) (f : Row → Row)
      (same_written : (r : Row) → written r ≡ (output (table_query t tests project []) (env t tests params r)).1)
      (same_id : (id : ℕ) (x : Row) → rowid (written (Int (pos id) ∷ x)) ≡ Int (pos id))
      (same_new : (id : ℕ) (x : Row) → new_of (written (Int (pos id) ∷ x)) ≡ Int (pos id) ∷ f x) where
    ids_written : (low_id : ℕ) (xs rows : List Row) → AreRows low_id xs rows → (p : Row → Bool) → ids_of (map written (filter p rows)) ≡ ids_in (filter p rows)
    ids_written low_id [] rows is p = rw is refl
    ids_written low_id (x ∷ xs) rows is p = rw is.3 (elim (cases_Bool (p (Int (pos is.0) ∷ x))) [
      | inl e ↦ rw (e, same_id is.0 x) (ap (λ l. pos is.0 ∷ l) (ids_written (is.0 + 1) xs is.1 is.4 p))
      | inr e ↦ rw e (ids_written (is.0 + 1) xs is.1 is.4 p)
    ])

    pub updated : (db : Trees) (xs rows left : List Row) → Keeps xs (db t) → length (filter q xs) ≤ 1 → IsAnswer (table_query t tests project []) (overlay db []) params rows
        → left ≡ put_all (without_all (db t) (ids_of rows)) (map new_of rows) → Keeps (map (λ x. cond (q x) (f x) x) xs) left
    updated db xs rows left k few a is =
        let body = table_query t tests project [] in
        let found = filter (keeps t tests params) (db t) in
        let outs = map (output body) (map (env t tests params) found) in
        let same_count : length found ≡ length (filter q k.stored) =
        sym (length-map found (λ r. true)) ∙ ap length (picked (keeps t tests params) q same_test (λ r. true) (λ x. true) (λ id x. refl) 1 k.stored (db t) k.under) ∙ length-map (filter q k.stored) (λ x. true) in
        let counted : length outs ≤ 1 =
        omega (arith, few, same_count, length_permutation _ _ (IsPermutation-filter q k.stored xs k.same), length-map (map (env t tests params) found) (output body), length-map found (env t tests params)) in
        let same : a.ordered ≡ outs = at_most_one outs a.ordered counted (put_in_order t tests params project [] (lit (Int (negsuc 0))) (lit (Int (pos 0))) low db rows a) in
        let all : rows ≡ map written found = a.shown ∙ ap (map (λ (o : Output). o.1)) same ∙ map-map (λ (o : Output). o.1) (output body) _ ∙ map-map (λ e. (output body e).1) (env t tests params) found ∙ back found in
        let put : left ≡ put_all (without_all (db t) (ids_in found)) (map (λ r. new_of (written r)) found) =
        is ∙ rw (all, ids_written 1 k.stored (db t) k.under (keeps t tests params), map-map new_of written found) refl in
        record {
          stored = map (λ x. cond (q x) (f x) x) k.stored;
          under = subst (AreRows 1 (map (λ x. cond (q x) (f x) x) k.stored)) (sym put) (put_back (keeps t tests params) q same_test f (λ r. new_of (written r)) same_new 1 k.stored (db t) k.under);
          same = IsPermutation-map (λ x. cond (q x) (f x) x) k.stored xs k.same;
        }
      where
        back : (rs : List Row) → map (λ r. (output (table_query t tests project []) (env t tests params r)).1) rs ≡ map written rs
        back [] = refl
        back (r ∷ rs) = rw (same_written r) (ap (λ l. (output (table_query t tests project []) (env t tests params r)).1 ∷ l) (back rs))
