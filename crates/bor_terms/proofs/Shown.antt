-- The ends of a range are those shown of its points.
use Rattle.std.proofs.Common.{◌≡◌, ℕ, zero, suc, ◌+◌, ◌/◌, ◌<◌, ◌≤◌, Bool, true, false, cond, List, [], ◌∷◌, Option, Some, None, refl, ap, ◌∙◌, arith}
use Rattle.std.specs.Prelude.{IfSome, is_some, option_map}
use Rattle.std.specs.List.{list_all, list_any, filter, range_with_len, last_or}
use Rattle.std.proofs.lemmas.Bool.{cond_both}
use Rattle.std.proofs.lemmas.Bool.Decides.{nat_tests}
use Rattle.bor_terms.specs.Points.{Bound, meets, points, has_points, end_bounds}
use Rattle.bor_terms.specs.Span.{Range, range, HasPoints}
use Rattle.bor_terms.specs.Shown.{shown, range_from, is_odd}
use Rattle.bor_terms.proofs.AnyPoint.{last_of, filter_same}
use Rattle.bor_terms.proofs.Held.{least, past, points_some, has_points_ends}

low_half : (low : ℕ) (low_open : Bool) → least low low_open / 2 ≡ low
low_half low low_open = grind arith

low_odd : (low : ℕ) (low_open : Bool) → is_odd (least low low_open) ≡ low_open
low_odd low low_open = grind (arith, nat_tests)

high_half : (high : ℕ) (high_open : Bool) (last : ℕ) → last + 1 ≡ past high high_open → (last + 1) / 2 ≡ high
high_half high high_open last h = grind arith

high_odd : (high : ℕ) (high_open : Bool) (last : ℕ) → last + 1 ≡ past high high_open → is_odd last ≡ high_open
high_odd high high_open last h = grind (arith, nat_tests)

shown_range : (a n : ℕ) → shown (range_with_len a (suc n)) ≡ Some (range_from a (a + n))
unfolding shown
shown_range a n = ap (option_map (λ q. range_from a q)) (last_of None a n)

-- ---- what is shown, and whether there are points

some_last : (f : ℕ → Range) (o : ℕ) (xs : List ℕ) → is_some (option_map f (last_or (Some o) xs)) ≡ true
some_last f o [] = refl
some_last f o (x ∷ xs) = some_last f x xs

pub is_some-shown : (ps : List ℕ) → is_some (shown ps) ≡ list_any (λ _. true) ps
unfolding shown
is_some-shown [] = refl
is_some-shown (p ∷ ps) = some_last (λ q. range_from p q) p ps

-- bounds that the same half percents meet have the same points
pub points_same : (bs cs : List Bound) → ((h : ℕ) → h < 201 → list_all (λ b. meets b h) bs ≡ list_all (λ b. meets b h) cs) → points bs ≡ points cs
unfolding points
points_same bs cs same = filter_same (λ h. list_all (λ b. meets b h) bs) (λ h. list_all (λ b. meets b h) cs) 0 201 same

none_of : {A : Type 0} (o : Option A) → is_some o ≡ false → o ≡ None
none_of o e = grind arith

shown_by : (low : ℕ) (low_open : Bool) (high : ℕ) (high_open : Bool) (b : Bool) → high ≤ 100 → has_points (end_bounds low low_open high high_open) ≡ b → shown (points (end_bounds low low_open high high_open)) ≡ cond b (Some (range low low_open high high_open)) None
shown_by low low_open high high_open true le e =
    let m = points_some low low_open high high_open le e in
    let last = least low low_open + m.0 in
    ap shown m.1 ∙ shown_range (least low low_open) m.0
    ∙ (λ i. Some (range (low_half low low_open i) (low_odd low low_open i) (high_half high high_open last m.2 i) (high_odd high high_open last m.2 i)))
shown_by low low_open high high_open false le e = none_of _ (is_some-shown (points (end_bounds low low_open high high_open)) ∙ e)

-- what is made of two ends is what is shown of their points
pub shown_made : (low : ℕ) (low_open : Bool) (high : ℕ) (high_open : Bool) → high ≤ 100 → shown (points (end_bounds low low_open high high_open)) ≡ cond (has_points (end_bounds low low_open high high_open)) (Some (range low low_open high high_open)) None
shown_made low low_open high high_open le = shown_by low low_open high high_open _ le refl

-- ---- the ends of what is shown

-- the last of the numbers from a on, or of one before them
last_within : (p : ℕ → Bool) (a n first last : ℕ) → first ≤ a → first < 201 → a + n ≤ 201 → last_or (Some first) (filter p (range_with_len a n)) ≡ Some last → (first ≤ last) × (last < 201)
last_within p a zero first last from small room e = let same : first ≡ last = cc in (omega arith, omega arith)
last_within p a (suc n) first last from small room e = grind (arith, last_within p (a + 1) n a last, last_within p (a + 1) n first last)

-- its high end is a percent, and it has points
abbrev pub IsRead : Range → Type 0
IsRead r = (r.high ≤ 100) × HasPoints r

ends_read : (p q : ℕ) → (p ≤ q) × (q < 201) → IsRead (range_from p q)
ends_read p q h =
    let le : (q + 1) / 2 ≤ 100 = omega arith in
    (le, has_points_ends (p / 2) (is_odd p) ((q + 1) / 2) (is_odd q) le ∙ grind (arith, nat_tests))

by_last : (a : ℕ) (o : Option ℕ) → ((q : ℕ) → o ≡ Some q → (a ≤ q) × (q < 201)) → IfSome (option_map (λ q. range_from a q) o) IsRead
by_last a None h = tt
by_last a (Some q) h = ends_read a q (h q refl)

read_within : (p : ℕ → Bool) (a n : ℕ) → a + n ≤ 201 → IfSome (shown (filter p (range_with_len a n))) IsRead
unfolding shown
read_within p a zero room = tt
read_within p a (suc n) room =
    cond_both (p a) (a ∷ filter p (range_with_len (a + 1) n)) (filter p (range_with_len (a + 1) n)) (λ xs. IfSome (shown xs) IsRead)
    (λ yes. by_last a _ (λ q. last_within p (a + 1) n a q (omega arith) (omega arith) (omega arith))) (λ no. read_within p (a + 1) n (omega arith))

-- what is shown of the points that meet any bounds
pub shown-IsRead : (bs : List Bound) → IfSome (shown (points bs)) IsRead
unfolding points
shown-IsRead bs = read_within (λ h. list_all (λ b. meets b h) bs) 0 201 (omega arith)
