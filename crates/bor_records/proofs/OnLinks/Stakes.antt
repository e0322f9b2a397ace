-- Every majority stake is a holding; an interest with no share has all points.
use Rattle.std.proofs.Common.{◌≡◌, arith, ◌&&◌, ◌||◌, ℕ, ℤ, Bool, true, false, Option, None, List, [], ◌∷◌, refl, ap, ◌∙◌}
use Rattle.std.specs.Prelude.{nat_lt}
use Rattle.std.specs.List.{list_all, list_any, AllByRecursion}
use Rattle.std.proofs.lemmas.Bool.Decides.{nat_tests}
use Rattle.std.proofs.lemmas.Bool.{and_parts}
use Rattle.bor_terms.specs.Points.{points}
use Rattle.bor_terms.specs.Span.{Range}
use Rattle.bods_read.specs.declared.interest.Interest.{Interest}
use Rattle.bor_records.specs.Links.Stakes.{counts, share_points, may_be_above_zero, is_above_half, is_holding, is_voting_majority, is_membership, is_stake, HasPointsOfShare}

-- ---- no share

some_above_zero : list_any (λ h. nat_lt 0 h) (points []) ≡ true
unfolding points
some_above_zero = refl

not_all_above_half : list_all (λ h. nat_lt 100 h) (points []) ≡ false
unfolding points
not_all_above_half = refl

pub whole_above_zero : (i : Interest) → i.share ≡ None → may_be_above_zero i ≡ true
whole_above_zero i e = ap (λ (share : Option Range). list_any (λ h. nat_lt 0 h) (share_points share)) e ∙ some_above_zero

pub whole_not_above_half : (i : Interest) → i.share ≡ None → is_above_half i ≡ false
whole_not_above_half i e = ap (λ (share : Option Range). list_all (λ h. nat_lt 100 h) (share_points share)) e ∙ not_all_above_half

-- ---- a stake

above : (h : ℕ) → nat_lt 100 h ≡ true → nat_lt 0 h ≡ true
above h e = grind (arith, nat_tests)

-- a list with an element, all above half, has one above nothing
some_above : (hs : List ℕ) → list_any (λ _. true) hs ≡ true → list_all (λ h. nat_lt 100 h) hs ≡ true → list_any (λ h. nat_lt 0 h) hs ≡ true
some_above [] e h = e
some_above (x ∷ hs) e h = ap (λ (b : Bool). b || list_any (λ k. nat_lt 0 k) hs) (above x (and_parts (nat_lt 100 x) (list_all (λ k. nat_lt 100 k) hs) h).0)

majority_holds : (day : ℤ) (i : Interest) → HasPointsOfShare i → is_voting_majority day i ≡ true → (counts day i && may_be_above_zero i) ≡ true
majority_holds day i p e = grind (arith, some_above (share_points i.share) p)

member_holds : (day : ℤ) (i : Interest) → is_membership day i ≡ true → (counts day i && may_be_above_zero i) ≡ true
member_holds day i e = grind arith

-- one that passes a test passes a weaker one
weaker : (p q : Interest → Bool) (P : Interest → Type 0) → ((i : Interest) → P i → p i ≡ true → q i ≡ true) → (interests : List Interest) → AllByRecursion P interests
    → list_any p interests ≡ true → list_any q interests ≡ true
weaker p q P so [] all e = e
weaker p q P so (i ∷ rest) all e = grind (arith, so i all.0, weaker p q P so rest all.1)

pub stake_holds : (day : ℤ) (interests : List Interest) → AllByRecursion HasPointsOfShare interests → is_stake day interests ≡ true → is_holding day interests ≡ true
stake_holds day interests all e =
    let holds = λ (i : Interest). counts day i && may_be_above_zero i in
    grind (arith, weaker (is_voting_majority day) holds HasPointsOfShare (majority_holds day) interests all, weaker (is_membership day) holds HasPointsOfShare (λ i p t. member_holds day i t) interests all)
