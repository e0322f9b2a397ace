-- The rows that a query by key gives, where a table's rows are those of some values.
use Rattle.std.proofs.Common.{◌≡◌, ℕ, ◌^◌, pos, negsuc, Bool, true, false, ◌&&◌, cond, inl, inr, nat_le, List, [], ◌∷◌, map, filter, take, drop, reverse, length, unwrap_or, Some, refl, sym, ap, ap₂, subst, ◌∙◌, IsPermutation, Less, arith}
use Rattle.std.specs.List.{AllByRecursion}
use Rattle.std.proofs.lemmas.List.{reverse-append, drop-map, take-map}
use Rattle.std.proofs.lemmas.List.Sorted.{IsPermutation-refl, IsPermutation-map, IsPermutation-trans, IsPermutation-sym, IsPermutation-reverse, length_permutation}
use Rattle.std.proofs.lemmas.Bool.{cases_Bool}
use Rattle.sqlite.specs.declared.types.Value.TheVariants.{Null, Int}
use Rattle.sqlite.specs.Order.{Row}
use Rattle.sqlite.specs.Tree.{Trees, IsAscending}
use Rattle.sqlite.specs.Term.{Term, col, eval, lit}
use Rattle.sqlite.specs.Query.{Query, Output, as_count, output, output_cmp, IsAnswer}
use Rattle.sqlite.specs.Program.{overlay}
use Rattle.sqlite_sql.proofs.QueryLemmas.{output_cmp_total}
use Rattle.sqlite_value.specs.declared.keys.Key.{Key}
use Rattle.sqlite_keyed.proofs.ListLemmas.{all_of, filter_all, map-map, map_same, filter-map, filter_same, ascending-map, ascending_weaker, all_map}
use Rattle.sqlite_catalog.proofs.ListFacts.{ascending_push}
use Rattle.sqlite_rules.proofs.ListLemmas.{all_has}
use Rattle.sqlite_trees.proofs.ListLemmas.{all-permutation}
use Rattle.sqlite_keyed.proofs.SortLemmas.{sorted_unique}
use Rattle.bor_store_sql.specs.Texts.Queries.{table_query, first_query, later_query}
use Rattle.bor_store_sql.specs.Kept.{Keeps}
use Rattle.bor_store_sql.specs.Changing.{row_passes}
use Rattle.bor_store_sql.proofs.Tables.{env, keeps, paged, come}

pub all_pass : {X : Type 0} (xs : List X) → filter (λ x. true) xs ≡ xs
all_pass xs = filter_all (λ x. true) xs (all_of (λ x. true ≡ true) (λ x. refl) xs)

pub filter_both : {X : Type 0} (p q : X → Bool) (xs : List X) → filter (λ x. p x && q x) xs ≡ filter q (filter p xs)
filter_both p q [] = refl
filter_both p q (x ∷ xs) = elim (cases_Bool (p x)) [ inl e ↦ rw e (ap (λ l. cond (q x) (x ∷ l) l) (filter_both p q xs)) | inr e ↦ rw e (filter_both p q xs) ]

turned : {X : Type 0} (R : X → X → Type 0) (xs : List X) → IsAscending R xs → IsAscending (λ a b. R b a) (reverse xs)
turned R [] up = tt
turned R (x ∷ xs) up =
    subst (IsAscending (λ a b. R b a)) (sym (reverse-append (x ∷ []) xs))
    (ascending_push (λ a b. R b a) (reverse xs) x (turned R xs up.1) (λ y has. all_has (R x) (reverse xs) y (all-permutation (R x) xs (reverse xs) (IsPermutation-reverse xs) up.0) has))

-- as many items, each the same one
as_many : {X : Type 0} (v : X) (xs ys : List X) → length ys ≡ length xs → AllByRecursion (λ x. x ≡ v) xs → AllByRecursion (λ y. y ≡ v) ys → ys ≡ xs
as_many v [] [] e h k = refl
as_many v [] (y ∷ ys) e h k = absurd (omega (arith, e))
as_many v (x ∷ xs) [] e h k = absurd (omega (arith, e))
as_many v (x ∷ xs) (y ∷ ys) e h k = ap₂ (λ z l. z ∷ l) (k.0 ∙ sym h.0) (as_many v xs ys (omega (arith, e)) h.1 k.1)

-- a permutation of items that are the same is the list itself
same_items : {X : Type 0} (v : X) (xs ys : List X) → AllByRecursion (λ x. x ≡ v) xs → IsPermutation xs ys → ys ≡ xs
same_items v xs ys h same = as_many v xs ys (length_permutation xs ys same) h (all-permutation (λ x. x ≡ v) xs ys same h)

module _ (t : ℕ) (low : nat_le (2 ^ 31) t ≡ false) (tests : List Term) (params : Row) (project : List Term) (order : List (Term × Key)) (same_test : (id : ℕ) (x : Row) → keeps t tests params (Int (pos id) ∷ x) ≡ row_passes tests params x) where
  -- what a query shows of a row, whatever its rowid
  abbrev pub shown_as : Query → Row → Output
  shown_as q x = output q (params ∷ (Null ∷ x) ∷ [])

  module _ {T : Type 0} (columns : T → Row) (out : T → Row) (p : T → Bool) (same : (x : T) → row_passes tests params (columns x) ≡ p x) (items : List T) (db : Trees) (xs rows : List Row) (are : xs ≡ map columns items) (kept : Keeps xs (db t)) where
    passed : filter (row_passes tests params) xs ≡ map columns (filter p items)
    passed = ap (filter (row_passes tests params)) are ∙ filter-map (row_passes tests params) columns items ∙ ap (map columns) (filter_same (λ x. row_passes tests params (columns x)) p same items)

    -- a query of whose answer some part is shown
    module _ (sorting : List (Term × Key)) (limit offset : Term) (same_out : (id : ℕ) (x : Row) → output (paged t tests params project sorting limit offset) (env t tests params (Int (pos id) ∷ x)) ≡ shown_as (paged t tests params project sorting limit offset) x)
        (same_shown : (x : T) → (shown_as (paged t tests params project sorting limit offset) (columns x)).1 ≡ out x) (a : IsAnswer (paged t tests params project sorting limit offset) (overlay db []) params rows) where
      abbrev paging : Query
      paging = paged t tests params project sorting limit offset

      abbrev output_of : T → Output
      output_of x = shown_as paging (columns x)

      -- it puts in order what it shows of the items that pass
      come_out : IsPermutation (map output_of (filter p items)) a.ordered
      come_out =
          subst (λ l. IsPermutation l a.ordered) (ap (map (shown_as paging)) passed ∙ map-map (shown_as paging) columns (filter p items))
          (come t low tests params (row_passes tests params) same_test project sorting limit offset (shown_as paging) same_out db xs rows kept a)

      outs : (zs : List T) → map (λ (o : Output). o.1) (map output_of zs) ≡ map out zs
      outs zs = map-map (λ (o : Output). o.1) output_of zs ∙ map_same (λ x. (output_of x).1) out same_shown zs

      -- where the items rise in some order, they come in it
      come_so : (zs : List T) → IsPermutation zs (filter p items) → IsAscending (λ x y. output_cmp paging (output_of x) (output_of y) ≡ Less) zs → map (λ (o : Output). o.1) a.ordered ≡ map out zs
      come_so zs perm up =
          let same : IsPermutation (map output_of zs) a.ordered = IsPermutation-trans _ _ _ (IsPermutation-map output_of zs (filter p items) perm) come_out in
          let one : a.ordered ≡ map output_of zs = sorted_unique (output_cmp paging) (output_cmp_total paging) _ a.ordered (ascending-map (λ c d. output_cmp paging c d ≡ Less) output_of zs up) same a.sorted in
          ap (map (λ (o : Output). o.1)) one ∙ outs zs

    module _ (same_out : (id : ℕ) (x : Row) → output (table_query t tests project order) (env t tests params (Int (pos id) ∷ x)) ≡ shown_as (table_query t tests project order) x)
        (same_shown : (x : T) → (shown_as (table_query t tests project order) (columns x)).1 ≡ out x) where
      abbrev asked : Query
      asked = table_query t tests project order

      -- in the order of the primary key
      pub picked_rows : IsAnswer asked (overlay db []) params rows → (R : T → T → Type 0) → ((x y : T) → R x y → output_cmp asked (shown_as asked (columns x)) (shown_as asked (columns y)) ≡ Less) → IsAscending R (filter p items)
          → rows ≡ map out (filter p items)
      picked_rows a R lower up =
          let Lower : T → T → Type 0 = λ x y. output_cmp asked (shown_as asked (columns x)) (shown_as asked (columns y)) ≡ Less in
          a.shown ∙ come_so order (lit (Int (negsuc 0))) (lit (Int (pos 0))) same_out same_shown a (filter p items) (IsPermutation-refl (filter p items)) (ascending_weaker R Lower lower (filter p items) up)

    module _ (same_out : (id : ℕ) (x : Row) → output (first_query t tests project order) (env t tests params (Int (pos id) ∷ x)) ≡ shown_as (first_query t tests project order) x)
        (same_shown : (x : T) → (shown_as (first_query t tests project order) (columns x)).1 ≡ out x) where
      abbrev asked_first : Query
      asked_first = first_query t tests project order

      -- the last alone, where the order asked for goes down
      pub picked_last : IsAnswer asked_first (overlay db []) params rows → (R : T → T → Type 0) → ((x y : T) → R x y → output_cmp asked_first (shown_as asked_first (columns y)) (shown_as asked_first (columns x)) ≡ Less)
          → IsAscending R (filter p items) → rows ≡ map out (take 1 (reverse (filter p items)))
      picked_last a R lower up =
          let ys = filter p items in
          let Lower : T → T → Type 0 = λ x y. output_cmp asked_first (shown_as asked_first (columns x)) (shown_as asked_first (columns y)) ≡ Less in
          let falls : IsAscending Lower (reverse ys) = turned (λ x y. Lower y x) ys (ascending_weaker R (λ x y. Lower y x) lower ys up) in
          a.shown ∙ ap (take 1) (come_so order (lit (Int (pos 1))) (lit (Int (pos 0))) same_out same_shown a (reverse ys) (IsPermutation-sym _ _ (IsPermutation-reverse ys)) falls) ∙ take-map out 1 (reverse ys)

    module _ (parameter count : ℕ) (counted : as_count (eval (col 0 parameter) (params ∷ [])) ≡ Some count)
        (same_out : (id : ℕ) (x : Row) → output (later_query t tests project parameter) (env t tests params (Int (pos id) ∷ x)) ≡ shown_as (later_query t tests project parameter) x)
        (same_shown : (x : T) → (shown_as (later_query t tests project parameter) (columns x)).1 ≡ out x) where
      abbrev asked_later : Query
      asked_later = later_query t tests project parameter

      -- one after so many, where each shows the same
      pub picked_later : IsAnswer asked_later (overlay db []) params rows → (v : Row) → AllByRecursion (λ x. out x ≡ v) (filter p items) → rows ≡ map out (take 1 (drop count (filter p items)))
      picked_later a v each =
          let ys = filter p items in
          let last = map (λ (o : Output). o.1) a.ordered in
          let perm : IsPermutation (map out ys) last =
          subst (λ l. IsPermutation l last) (outs [] (lit (Int (pos 1))) (col 0 parameter) same_out same_shown a ys) (IsPermutation-map (λ (o : Output). o.1) _ a.ordered (come_out [] (lit (Int (pos 1))) (col 0 parameter) same_out same_shown a)) in
          let one : last ≡ map out ys = same_items v (map out ys) last (all_map (λ x. x ≡ v) out ys each) perm in
          a.shown ∙ ap (λ o. take 1 (drop (unwrap_or o 0) last)) counted ∙ ap (λ l. take 1 (drop count l)) one ∙ ap (take 1) (drop-map out count ys) ∙ take-map out 1 (drop count ys)
