-- A snapshot from a map of the latest rows, and what a snapshot must have. Its identifiers go up.
use Rattle.std.proofs.Common.{◌≡◌, ℕ, ℤ, Bool, true, List, [], ◌∷◌, map, Option, Some, None, option_map, option_and_then, Contains, refl, sym, ap, ◌∙◌, subst, cond, Ordering, arith}
use Rattle.std.specs.Prelude.{◌&&◌, ◌||◌, is_some}
use Rattle.std.specs.Borrow.{Bor}
use Rattle.std.specs.declared.cmp.Ordering.TheVariants.{Less, Equal, Greater}
use Rattle.std.specs.Ordering.{nat_cmp, eq_by_cmp, is_eq, ordering_reverse}
use Rattle.std.specs.Cmp.Lexicographic.{slice_cmp}
use Rattle.std.specs.List.{filter, filter_map, list_any, last_or, cons_option, AllByRecursion}
use Rattle.std.specs.List.Sorted.{IsStrictlySortedBy}
use Rattle.std.specs.BTreeSet.{BTreeSet, insert_key}
use Rattle.std.specs.BTreeMap as tree
use Rattle.std.specs.BTreeMap.{BTreeMap}
use Rattle.std.specs.Map.{lookup}
use Rattle.std.proofs.lemmas.Bool.{and_parts}
use Rattle.std.proofs.lemmas.Cmp.{nat_list_cmp_total, eq_by_cmp_equiv}
use Rattle.std.proofs.lemmas.List.Elements.{All-contains_itself, All-filter, All-from_recursion, All-weaker, filter_passes, recursion_from_All}
use Rattle.std.proofs.lemmas.List.Kept.{IsStrictlySortedBy-filter}
use Rattle.std.proofs.lemmas.Map.Keys.{sorted_head, sorted_tail}
use Rattle.std.proofs.lemmas.Map.Lookups.{btree_set_from_contains, exact_bytes}
use Rattle.std.proofs.lemmas.Map.Made.{is_some-lookup}
use Rattle.std.proofs.lemmas.Map.Text.{is_eq-slice_cmp}
use Rattle.std.proofs.lemmas.Map.Views.{All-insert_key, any-filter_same, Contains-from_any, list_any-from_Contains, tells_apart}
use Rattle.bor_terms.specs.Texts.{is_same}
use Rattle.bor_terms.proofs.Texts.{same_is, same_sym}
use Rattle.bor_records.specs.declared.row.Row.{Row}
use Rattle.bor_records.specs.declared.row.Entry.{Entry}
use Rattle.bor_records.specs.Admission.{is_of}
use Rattle.bor_records.specs.Snapshot.{is_dated, latest, record_rows, unless_closed, open_row, entry_of, records, snapshot, IsSnapshot, SnapshotIsDetermined}
use Rattle.bor_records.specs.Found.{found_at}
use Rattle.bor_records.proofs.Lists.{all_map, none_pass}
use Rattle.bor_records.proofs.OnLinks.Found.{Contains-filter_map, Contains-from_filter_map, Contains-from_map, Contains-map}

-- ---- lists of identifiers that go up

abbrev by_bytes : List ℕ → List ℕ → Ordering
by_bytes a b = slice_cmp nat_cmp a b

-- the list has the identifier
abbrev has : List ℕ → List (List ℕ) → Bool
has q ks = list_any (eq_by_cmp (slice_cmp nat_cmp) q) ks

abbrev GoesUp : List (List ℕ) → Type 0
GoesUp ks = IsStrictlySortedBy (slice_cmp nat_cmp) ks

-- two that go up and have the same identifiers are one
same_lists : (ks js : List (List ℕ)) → GoesUp ks → GoesUp js → ((q : List ℕ) → has q ks ≡ has q js) → ks ≡ js
same_lists ks js s t h =
    let one : BTreeSet (List ℕ) = record { keys = ks } in
    let two : BTreeSet (List ℕ) = record { keys = js } in
    btree_set_from_contains nat_list_cmp_total one two s t h exact_bytes

abbrev gives : {Y : Type 0} → (List ℕ → Option Y) → List ℕ → Bool
gives g k = is_some (g k)

-- what gives nothing may be left out before
only_giving : {Y : Type 0} (g : List ℕ → Option Y) (ks : List (List ℕ)) → filter_map g ks ≡ filter_map g (filter (gives g) ks)
only_giving g [] = refl
only_giving g (k ∷ ks) = grind (arith, only_giving g ks)

-- what is given of two lists that go up is the same where both have each identifier that gives something
same_given : {Y : Type 0} (g : List ℕ → Option Y) (ks js : List (List ℕ)) → GoesUp ks → GoesUp js
    → ((q : List ℕ) → is_some (g q) ≡ true → has q ks ≡ true) → ((q : List ℕ) → is_some (g q) ≡ true → has q js ≡ true) → filter_map g ks ≡ filter_map g js
same_given g ks js s t h k =
    only_giving g ks
    ∙ ap (filter_map g) (same_lists (filter (gives g) ks) (filter (gives g) js) (IsStrictlySortedBy-filter _ (gives g) ks s) (IsStrictlySortedBy-filter _ (gives g) js t) both)
    ∙ sym (only_giving g js)
  where
    kept : (q : List ℕ) (xs : List (List ℕ)) → has q (filter (gives g) xs) ≡ (is_some (g q) && has q xs)
    kept q xs = any-filter_same (eq_by_cmp (slice_cmp nat_cmp) q) (gives g) (gives g q) (λ x e. ap (gives g) (sym (tells_apart exact_bytes q x e))) xs

    both : (q : List ℕ) → has q (filter (gives g) ks) ≡ has q (filter (gives g) js)
    both q = grind (arith, kept q ks, kept q js, h q, k q)

-- ---- one identifier more, in its place

goes_up-insert : (ks : List (List ℕ)) (k : List ℕ) → GoesUp ks → GoesUp (insert_key (slice_cmp nat_cmp) ks k)
unfolding IsStrictlySortedBy
goes_up-insert [] k s = (tt, tt)
goes_up-insert (x ∷ xs) k s = at (goes_up-insert xs k s.1) (by_bytes k x) refl
  where
    at : GoesUp (insert_key (slice_cmp nat_cmp) xs k) → (o : Ordering) → by_bytes k x ≡ o → GoesUp (insert_key (slice_cmp nat_cmp) (x ∷ xs) k)
    at rest Less e = rw e ((e, all_map _ _ xs (λ y h. nat_list_cmp_total.trans k x y e h) s.0), s)
    at rest Equal e = rw e s
    at rest Greater e =
        let below = λ (y : List ℕ). by_bytes x y ≡ Less in
        rw e (recursion_from_All below _ (All-insert_key (slice_cmp nat_cmp) k below xs (All-from_recursion below xs s.0) (nat_list_cmp_total.antisymm x k ∙ ap ordering_reverse e)), rest)

has-insert : (q : List ℕ) (ks : List (List ℕ)) (k : List ℕ) → has q (insert_key (slice_cmp nat_cmp) ks k) ≡ (eq_by_cmp (slice_cmp nat_cmp) q k || has q ks)
has-insert q [] k = refl
has-insert q (x ∷ xs) k = grind (arith, has-insert q xs k, exact_bytes k x)

-- ---- the declaration's records

abbrev of_record : List ℕ → List ℕ → Row → Bool
of_record declaration rec r = is_of declaration rec r.statement

pub goes_up-records : (declaration : List ℕ) (rows : List Row) → GoesUp (records declaration rows)
unfolding IsStrictlySortedBy
goes_up-records declaration [] = tt
goes_up-records declaration (r ∷ rows) = grind (arith, goes_up-insert (records declaration rows) r.statement.rec, goes_up-records declaration rows)

has-records : (declaration q : List ℕ) (rows : List Row) → has q (records declaration rows) ≡ list_any (of_record declaration q) rows
has-records declaration q [] = refl
has-records declaration q (r ∷ rows) = grind (arith, has-records declaration q rows, has-insert q (records declaration rows) r.statement.rec, is_eq-slice_cmp q r.statement.rec, same_sym q r.statement.rec)

-- ---- the row that an open record shows

-- an open record is one of the declaration's
pub open_is_there : (declaration : List ℕ) (day : ℤ) (rows : List Row) (q : List ℕ) → is_some (open_row declaration day rows q) ≡ true → has q (records declaration rows) ≡ true
open_is_there declaration day rows q h = grind (arith, has-records declaration q rows, none_pass (of_record declaration q) rows)

last_holds : (P : Row → Type 0) (rows : List Row) (o : Option Row) (r : Row) → ((x : Row) → o ≡ Some x → P x) → AllByRecursion P rows → last_or o rows ≡ Some r → P r
last_holds P [] o r f h e = f r e
last_holds P (x ∷ xs) o r f h e = last_holds P xs (Some x) r (λ y k. let same : x ≡ y = cc in subst P same h.0) h.1 e

not_closed : (o : Option Row) (r : Row) → option_and_then unless_closed o ≡ Some r → o ≡ Some r
not_closed o r h = grind arith

-- it is a row of that record
pub open_row-rec : (declaration : List ℕ) (day : ℤ) (rows : List Row) (q : List ℕ) (r : Row) → open_row declaration day rows q ≡ Some r → r.statement.rec ≡ q
open_row-rec declaration day rows q r h =
    let of = of_record declaration q in
    let all = recursion_from_All (λ x. of x ≡ true) _ (All-filter (is_dated day) (λ x. of x ≡ true) (filter of rows) (filter_passes of rows)) in
    let is : of r ≡ true = last_holds (λ x. of x ≡ true) (filter (is_dated day) (filter of rows)) None r (λ x e. absurd cc) all (not_closed (latest day (record_rows declaration q rows)) r h) in
    same_is r.statement.rec q (and_parts (is_same r.statement.declaration declaration) (is_same r.statement.rec q) is).1

-- ---- what is shown of a list of identifiers

same_on : {X Y : Type 0} (f g : X → Option Y) (ks : List X) → AllByRecursion (λ k. f k ≡ g k) ks → filter_map f ks ≡ filter_map g ks
same_on f g [] h = refl
same_on f g (k ∷ ks) h = ap (λ o. cons_option o (filter_map f ks)) h.0 ∙ ap (cons_option (g k)) (same_on f g ks h.1)

abbrev Found : Type 0
Found = List (List ℕ × Row)

abbrev keys : Found → List (List ℕ)
keys fs = map (λ e. e.0) fs

abbrev values : Found → List Row
values fs = map (λ e. e.1) fs

abbrev at_key : List ℕ → Found → Option Row
at_key q fs = lookup (eq_by_cmp (slice_cmp nat_cmp) q) fs

-- what the rows give is what the look-ups give, where the keys go up
given_of : {Y : Type 0} (h : Row → Option Y) (fs : Found) → GoesUp (keys fs) → filter_map h (values fs) ≡ filter_map (λ q. option_and_then h (at_key q fs)) (keys fs)
given_of h [] s = refl
given_of {Y} h (e ∷ fs) s =
    ap (λ o. cons_option o (filter_map h (values fs))) (sym here)
    ∙ ap (cons_option (option_and_then h (at_key e.0 (e ∷ fs)))) (given_of h fs (sorted_tail _ e.0 (keys fs) s) ∙ sym (same_on _ _ (keys fs) (all_map _ _ (keys fs) later (sorted_head _ e.0 (keys fs) s))))
  where
    here : option_and_then h (at_key e.0 (e ∷ fs)) ≡ h e.1
    here = ap (λ (b : Bool). option_and_then h (cond b (Some e.1) (at_key e.0 fs))) ((eq_by_cmp_equiv nat_list_cmp_total).refl e.0)

    later : (q : List ℕ) → by_bytes e.0 q ≡ Less → option_and_then h (at_key q (e ∷ fs)) ≡ option_and_then h (at_key q fs)
    later q l = ap (λ (o : Ordering). option_and_then h (cond (is_eq o) (Some e.1) (at_key q fs))) (nat_list_cmp_total.antisymm q e.0 ∙ ap ordering_reverse l)

-- a snapshot from the latest rows by their records' identifiers
snapshot-from : (declaration : List ℕ) (day : ℤ) (rows : List Row) (fs : Found) → GoesUp (keys fs) → ((q : List ℕ) → at_key q fs ≡ latest day (record_rows declaration q rows))
    → map entry_of (filter_map unless_closed (values fs)) ≡ snapshot declaration day rows
snapshot-from declaration day rows fs s h =
    ap (map entry_of) (given_of unless_closed fs s ∙ (λ i. filter_map (λ q. option_and_then unless_closed (h q i)) (keys fs))
    ∙ same_given (open_row declaration day rows) (keys fs) (records declaration rows) s (goes_up-records declaration rows) in_keys (open_is_there declaration day rows))
  where
    in_keys : (q : List ℕ) → is_some (open_row declaration day rows q) ≡ true → has q (keys fs) ≡ true
    in_keys q e = grind (arith, is_some-lookup (eq_by_cmp (slice_cmp nat_cmp) q) fs, h q)

-- ---- a map of references

abbrev pub row_at : Bor Row → Row
row_at b = b.now

abbrev Pairs : Type 0
Pairs = List (Bor (List ℕ) × Bor Row)

abbrev plain : Pairs → Found
plain es = map (λ e. (e.0.now, e.1.now)) es

at_key-plain : (q : List ℕ) (es : Pairs) → at_key q (plain es) ≡ option_map row_at (lookup (λ (k : Bor (List ℕ)). is_eq (slice_cmp nat_cmp q k.now)) es)
at_key-plain q [] = refl
at_key-plain q (e ∷ es) = grind (arith, at_key-plain q es)

all_read : (P : List ℕ → Type 0) (es : Pairs) → AllByRecursion (λ (k : Bor (List ℕ)). P k.now) (map (λ e. e.0) es) → AllByRecursion P (keys (plain es))
all_read P [] h = tt
all_read P (e ∷ es) h = (h.0, all_read P es h.1)

goes_up-plain : (es : Pairs) → IsStrictlySortedBy (λ (x y : Bor (List ℕ)). slice_cmp nat_cmp x.now y.now) (map (λ e. e.0) es) → GoesUp (keys (plain es))
unfolding IsStrictlySortedBy
goes_up-plain [] s = tt
goes_up-plain (e ∷ es) s = (all_read _ es s.0, goes_up-plain es s.1)

values-plain : (es : Pairs) → values (plain es) ≡ map row_at (map (λ e. e.1) es)
values-plain [] = refl
values-plain (e ∷ es) = ap (λ rs. e.1.now ∷ rs) (values-plain es)

-- what is shown of the latest rows
abbrev pub shown : List (Bor Row) → List Entry
shown rows = map entry_of (filter_map unless_closed (map row_at rows))

-- the snapshot from a map of the latest rows
pub snapshot-found : (declaration : List ℕ) (day : ℤ) (rows : List Row) (found : BTreeMap (Bor (List ℕ)) (Bor Row)) → tree.IsOrdered (λ (x y : Bor (List ℕ)). slice_cmp nat_cmp x.now y.now) found
    → ((q : List ℕ) → found_at found q ≡ latest day (record_rows declaration q rows)) → shown (tree.values found) ≡ snapshot declaration day rows
snapshot-found declaration day rows found s h =
    ap (λ rs. map entry_of (filter_map unless_closed rs)) (sym (values-plain found.entries))
    ∙ snapshot-from declaration day rows (plain found.entries) (goes_up-plain found.entries s) (λ q. at_key-plain q found.entries ∙ h q)

-- ---- what a snapshot must have

abbrev rec_of : Entry → List ℕ
rec_of e = e.statement.rec

-- what holds of each of a list, item by item
all_held : {X : Type 0} (P : X → Type 0) (xs : List X) → ((x : X) → Contains xs x → P x) → AllByRecursion P xs
all_held P xs f = recursion_from_All P xs (All-weaker (Contains xs) P f xs (All-contains_itself xs))

-- what is given of two lists, of which the first gives itself
itself : (g : List ℕ → Option Row) (entries : List Entry) → AllByRecursion (λ e. option_map entry_of (g e.statement.rec) ≡ Some e) entries → entries ≡ map entry_of (filter_map g (map rec_of entries))
itself g [] h = refl
itself g (e ∷ es) h = grind (arith, h.0, itself g es h.1)

-- the identifiers of what is given, where each is of its own
given_recs : (g : List ℕ → Option Row) → ((q : List ℕ) (r : Row) → g q ≡ Some r → r.statement.rec ≡ q) → (ks : List (List ℕ)) → map rec_of (map entry_of (filter_map g ks)) ≡ filter (λ k. is_some (g k)) ks
given_recs g own [] = refl
given_recs g own (k ∷ ks) = grind (arith, given_recs g own ks, own k)

has_all : (declaration : List ℕ) (day : ℤ) (rows : List Row) → IsSnapshot declaration day rows (snapshot declaration day rows)
has_all declaration day rows = record {
  each = λ e h.
      let m = Contains-from_map entry_of (filter_map g ks) e h in
      let k = Contains-from_filter_map g ks m.0 m.1 in
      subst (λ (x : Entry). option_map entry_of (g x.statement.rec) ≡ Some x) m.2 (ap (λ q. option_map entry_of (g q)) (own k.0 m.0 k.2) ∙ ap (option_map entry_of) k.2);
  every = λ q r e. Contains-map entry_of (filter_map g ks) r (Contains-filter_map g ks q r (Contains-from_any (tells_apart exact_bytes) q ks (open_is_there declaration day rows q (ap is_some e))) e);
  sorted = subst GoesUp (sym (given_recs g own ks)) (IsStrictlySortedBy-filter _ (λ k. is_some (g k)) ks (goes_up-records declaration rows));
}
  where
    g : List ℕ → Option Row
    g = open_row declaration day rows

    ks : List (List ℕ)
    ks = records declaration rows

    own : (q : List ℕ) (r : Row) → g q ≡ Some r → r.statement.rec ≡ q
    own q r e = open_row-rec declaration day rows q r e

is_it : (declaration : List ℕ) (day : ℤ) (rows : List Row) (entries : List Entry) → IsSnapshot declaration day rows entries → entries ≡ snapshot declaration day rows
is_it declaration day rows entries s =
    itself g entries (all_held _ entries s.each)
    ∙ ap (map entry_of) (same_given g (map rec_of entries) (records declaration rows) s.sorted (goes_up-records declaration rows) (λ q e. at q (g q) refl e) (open_is_there declaration day rows))
  where
    g : List ℕ → Option Row
    g = open_row declaration day rows

    at : (q : List ℕ) (o : Option Row) → g q ≡ o → is_some o ≡ true → has q (map rec_of entries) ≡ true
    at q None e h = absurd cc
    at q (Some r) e h =
        list_any-from_Contains (eq_by_cmp_equiv nat_list_cmp_total) q (map rec_of entries)
        (subst (λ (k : List ℕ). Contains (map rec_of entries) k) (open_row-rec declaration day rows q r e) (Contains-map rec_of entries (entry_of r) (s.every q r e)))

pub determined : SnapshotIsDetermined
determined declaration day rows entries = (is_it declaration day rows entries, λ e. subst (IsSnapshot declaration day rows) (sym e) (has_all declaration day rows))
