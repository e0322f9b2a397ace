-- One row more.
use Rattle.std.proofs.Common.{◌≡◌, ℕ, ◌+◌, ℤ, Bool, true, false, cond, List, [], ◌∷◌, ◌++◌, length, ◌<◌, take, get_or, Option, Some, None, option_map, refl, sym, ap, ◌∙◌, arith, if◌then◌else◌}
use Rattle.std.proofs.lemmas.List.{append-nil, length-take-le, take_more}
use Rattle.std.specs.List.{filter, last_or}
use Rattle.std.specs.Prelude.{◌&&◌}
use Rattle.std.specs.Borrow.{Bor}
use Rattle.bor_terms.specs.Texts.{is_same}
use Rattle.std.proofs.lemmas.List.Elements.{filter-append}
use Rattle.bor_records.specs.declared.row.Row.{Row}
use Rattle.bor_records.specs.Admission.{is_of}
use Rattle.bor_records.specs.Snapshot.{is_dated, latest, latest_place, record_rows}

pub last_or-push : {X : Type 0} (o : Option X) (xs : List X) (x : X) → last_or o (xs ++ x ∷ []) ≡ Some x
last_or-push o [] x = refl
last_or-push o (y ∷ ys) x = last_or-push (Some y) ys x

more : (rows : List Row) (i : ℕ) (r : Row) → i < length rows → r ≡ get_or rows i r → take (i + 1) rows ≡ take i rows ++ r ∷ []
more rows i r h e = take_more rows i r h ∙ ap (λ x. take i rows ++ x ∷ []) (sym e)

-- the last that passes, with one more at the end
pub last_passing-push : {X : Type 0} (p : X → Bool) (xs : List X) (x : X) → last_or None (filter p (xs ++ x ∷ [])) ≡ if p x then Some x else last_or None (filter p xs)
last_passing-push p xs x = grind (arith, filter-append p xs (x ∷ []), last_or-push None (filter p xs) x, append-nil (filter p xs))

pub latest-push : (day : ℤ) (rows : List Row) (r : Row) → latest day (rows ++ r ∷ []) ≡ if is_dated day r then Some r else latest day rows
latest-push day rows r = last_passing-push (is_dated day) rows r

pub latest_place-push : (day : ℤ) (rows : List Row) (r : Row) → latest_place day (rows ++ r ∷ []) ≡ if is_dated day r then Some (length rows) else latest_place day rows
latest_place-push day [] r = refl
latest_place-push day (x ∷ xs) r = grind (arith, latest_place-push day xs r)

-- the latest among one row more
pub latest_more : (day : ℤ) (rows : List Row) (i : ℕ) (r : Row) → i < length rows → r ≡ get_or rows i r
    → latest day (take (i + 1) rows) ≡ if is_dated day r then Some r else latest day (take i rows)
latest_more day rows i r h e = ap (latest day) (more rows i r h e) ∙ latest-push day (take i rows) r

pub latest_place_more : (day : ℤ) (rows : List Row) (i : ℕ) (r : Row) → i < length rows → r ≡ get_or rows i r
    → latest_place day (take (i + 1) rows) ≡ if is_dated day r then Some i else latest_place day (take i rows)
latest_place_more day rows i r h e =
    ap (latest_place day) (more rows i r h e) ∙ latest_place-push day (take i rows) r
    ∙ ap (λ n. if is_dated day r then Some n else latest_place day (take i rows)) (length-take-le i rows (omega arith))

-- the latest of a record among one row more
pub latest_series_more : (day : ℤ) (declaration rec : List ℕ) (rows : List Row) (i : ℕ) (r : Row) → i < length rows → r ≡ get_or rows i r
    → latest day (record_rows declaration rec (take (i + 1) rows))
    ≡ if is_of declaration rec r.statement && is_dated day r then Some r else latest day (record_rows declaration rec (take i rows))
latest_series_more day declaration rec rows i r h e =
    let of : Row → Bool = λ x. is_of declaration rec x.statement in
    let kept = filter of (take i rows) in
    ap (λ xs. latest day (record_rows declaration rec xs)) (more rows i r h e) ∙ ap (latest day) (filter-append of (take i rows) (r ∷ [])) ∙ grind (arith, latest-push day kept r, append-nil kept)

-- ---- a map of the latest rows, by the records' identifiers

abbrev now : Bor Row → Row
now b = b.now

-- once the row is put in at its record
pub put_latest : (day : ℤ) (declaration rec : List ℕ) (r : Row) (x : Bor Row) (key : List ℕ) (old new : Option (Bor Row)) (before : Option Row) → x.now ≡ r → key ≡ r.statement.rec
    → (is_same r.statement.declaration declaration && is_dated day r) ≡ true → new ≡ cond (is_same key rec) (Some x) old → option_map now old ≡ before
    → option_map now new ≡ if is_of declaration rec r.statement && is_dated day r then Some r else before
put_latest day declaration rec r x key old new before is k t e o = grind arith

-- once a row is passed over
pub pass_latest : (day : ℤ) (declaration rec : List ℕ) (r : Row) (before : Option Row)
    → (is_same r.statement.declaration declaration && is_dated day r) ≡ false → before ≡ if is_of declaration rec r.statement && is_dated day r then Some r else before
pass_latest day declaration rec r before t = grind arith
