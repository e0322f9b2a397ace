-- Open rows, looked for from the last row on.
use Rattle.std.proofs.Common.{◌≡◌, ◌+◌, ◌<◌, ◌++◌, ◌&&◌, ◌||◌, not, ℕ, ℤ, Bool, true, cond, List, [], ◌∷◌, drop, length, get_or, refl, ap, ◌∙◌, map, reverse, arith}
use Rattle.std.specs.List.{list_any}
use Rattle.std.specs.Ordering.{is_eq, nat_cmp, ordering_then}
use Rattle.std.specs.Cmp.{both_tied}
use Rattle.std.specs.Cmp.Lexicographic.{slice_cmp, texts_ties}
use Rattle.std.specs.BTreeSet.{BTreeSet, contains}
use Rattle.std.proofs.lemmas.List.{drop_more, map-append, reverse-append}
use Rattle.bor_terms.specs.Texts.{is_same}
use Rattle.bor_records.specs.declared.row.Row.{Row}
use Rattle.bor_records.specs.declared.series.Series.{Series}
use Rattle.bor_records.specs.Admission.{is_closed}
use Rattle.bor_records.specs.Snapshot.{is_dated}
use Rattle.bor_records.specs.OpenRows.{is_beside, open_rows}
use Rattle.bor_records.specs.Seen.{series_cmp, IsOf, is_in, has_dated}

-- ---- two series

turned : (a b c : Bool) → (a && (b && c)) ≡ (c && (b && a))
turned a b c = grind arith

tied : (t a b : List ℕ) → a ≡ t → is_same t b ≡ is_eq (slice_cmp nat_cmp a b)
tied t a b e = rw (← e) (texts_ties a b)

-- a row is of a series where its own compares alike
in_ties : (k q : Series) (r : Row) → IsOf k r → is_in q r ≡ is_eq (series_cmp k q)
in_ties k q r of =
    let by_record = slice_cmp nat_cmp k.rec.now q.rec.now in
    let by_declaration = slice_cmp nat_cmp k.declaration.now q.declaration.now in
    let by_agent = slice_cmp nat_cmp k.agent.now q.agent.now in
    turned (is_same r.agent q.agent.now) (is_same r.statement.declaration q.declaration.now) (is_same r.statement.rec q.rec.now)
    ∙ both_tied _ _ by_record (ordering_then by_declaration by_agent) (tied r.statement.rec k.rec.now q.rec.now of.rec)
    (both_tied _ _ by_declaration by_agent (tied r.statement.declaration k.declaration.now q.declaration.now of.declaration) (tied r.agent k.agent.now q.agent.now of.agent))

-- a later row is of a row's series
followed : (day : ℤ) (k : Series) (r : Row) (rows : List Row) → IsOf k r → has_dated day k rows ≡ list_any (λ x. is_beside r x && is_dated day x) rows
followed day k r rows of = λ i. list_any (λ x. is_same x.agent (of.agent i) && (is_same x.statement.declaration (of.declaration i) && is_same x.statement.rec (of.rec i)) && is_dated day x) rows

-- ---- what was seen

-- the series of a row that is dated, added
pub seen_more : (day : ℤ) (r : Row) (s n : BTreeSet Series) (k : Series) → IsOf k r → is_dated day r ≡ true
    → ((q : Series) → contains series_cmp n q ≡ cond (is_eq (series_cmp k q)) true (contains series_cmp s q))
    → (q : Series) → contains series_cmp n q ≡ ((is_in q r && is_dated day r) || contains series_cmp s q)
seen_more day r s n k of d up q = grind (arith, up q, in_ties k q r of)

-- a row before those that were visited
pub seen_before : (day : ℤ) (rows : List Row) (next k : ℕ) (r : Row) (was now : Series → Bool) → k + 1 ≡ next → k < length rows → r ≡ get_or rows k r
    → ((q : Series) → was q ≡ has_dated day q (drop next rows)) → ((q : Series) → now q ≡ ((is_in q r && is_dated day r) || was q))
    → (q : Series) → now q ≡ has_dated day q (drop k rows)
seen_before day rows next k r was now one lt at before more q =
    rw (drop_more rows k r lt, ← at, one) (more q ∙ ap (λ (b : Bool). (is_in q r && is_dated day r) || b) (before q))

-- it is taken or not
pub latest_before : (day : ℤ) (rows : List Row) (next k : ℕ) (r : Row) (series : Series) (was : Series → Bool) (xs : List Row) (b : Bool) → k + 1 ≡ next → k < length rows → r ≡ get_or rows k r → IsOf series r
    → ((q : Series) → was q ≡ has_dated day q (drop next rows)) → b ≡ (is_dated day r && not (is_closed r.status) && not (was series))
    → xs ≡ open_rows day (drop next rows) → cond b (r ∷ xs) xs ≡ open_rows day (drop k rows)
latest_before day rows next k r series was xs b one lt at of before is rest =
    let taken = is ∙ ap (λ (c : Bool). is_dated day r && not (is_closed r.status) && not c) (before series ∙ followed day series r (drop next rows) of) in
    rw (drop_more rows k r lt, ← at, one) (λ i. cond (taken i) (r ∷ rest i) (rest i))

-- ---- lists in reverse

pub map_reverse : {A B : Type 0} (f : A → B) (xs : List A) → map f (reverse xs) ≡ reverse (map f xs)
map_reverse f [] = refl
map_reverse f (x ∷ xs) = rw (reverse-append (x ∷ []) xs, map-append, map_reverse f xs, reverse-append (f x ∷ []) (map f xs)) refl

-- what is pushed is the first in reverse
pub pushed_on : {A B : Type 0} (f : A → B) (zs xs : List A) (y : A) → zs ≡ xs ++ y ∷ [] → reverse (map f zs) ≡ f y ∷ reverse (map f xs)
pushed_on f zs xs y e = rw (e, map-append, reverse-append) refl
