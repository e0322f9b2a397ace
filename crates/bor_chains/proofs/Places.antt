-- What stands at places of a list.
use Rattle.std.proofs.Common.{◌≡◌, ◌⊎◌, ◌+◌, ◌<◌, ◌≤◌, ◌++◌, ℕ, zero, suc, Some, List, [], ◌∷◌, Contains, length, sym, ap, ◌∙◌, inl, inr, arith}
use Rattle.std.specs.List.{slice_get}
use Rattle.std.proofs.Math.ListN.{set, length-set}
use Rattle.std.proofs.iter.runs.Lists.{nth_left}
use Rattle.std.proofs.lemmas.List.{get_or-set_same, get_or-set_other}
use Rattle.std.proofs.lemmas.Option.{slice_get_within, slice_get-get_or, slice_get_past, slice_get_cases, get_or_from_slice_get}

pub got : {X : Type 0} (xs : List X) (x : X) → Contains xs x → (i : ℕ) × (slice_get xs i ≡ Some x)
got xs x h = (h.0, slice_get-get_or xs h.0 x h.1 ∙ ap (λ y. Some y) h.2)

pub got_is : {X : Type 0} (xs : List X) (i : ℕ) (x : X) → slice_get xs i ≡ Some x → Contains xs x
got_is xs i x h = (i, slice_get_within xs i x h, get_or_from_slice_get xs i x x h)

pub got_there : {X : Type 0} (xs : List X) (i : ℕ) → i < length xs → (x : X) × (slice_get xs i ≡ Some x)
got_there xs i lt = elim (slice_get_cases xs i).1 [ inl found ↦ (found.0, found.2) | inr past ↦ absurd (omega (arith, lt, past.0)) ]

-- ---- one list after another

pub got_left : {X : Type 0} (xs ys : List X) (i : ℕ) (x : X) → slice_get xs i ≡ Some x → slice_get (xs ++ ys) i ≡ Some x
got_left xs ys i x h = nth_left xs ys i (slice_get_within xs i x h) ∙ h

pub got_cases : {X : Type 0} (xs ys : List X) (i : ℕ) (x : X) → slice_get (xs ++ ys) i ≡ Some x → (slice_get xs i ≡ Some x) ⊎ ((length xs ≤ i) × Contains ys x)
got_cases [] ys i x h = inr (omega arith, got_is ys i x h)
got_cases (a ∷ bs) ys zero x h = inl h
got_cases (a ∷ bs) ys (suc i) x h = elim (got_cases bs ys i x h) [ inl p ↦ inl p | inr q ↦ inr (omega (arith, q.0), q.1) ]

-- ---- another element at a place

pub set_there : {X : Type 0} (xs : List X) (i : ℕ) (x : X) → i < length xs → slice_get (set xs i x) i ≡ Some x
set_there {X} xs i x lt = slice_get-get_or (set xs i x) i x (omega (arith, lt, length-set xs i x)) ∙ ap (λ (y : X). Some y) (get_or-set_same xs i x x lt)

pub set_other : {X : Type 0} (xs : List X) (i j : ℕ) (x : X) → (j ≡ i → ⊥) → slice_get (set xs i x) j ≡ slice_get xs j
set_other {X} xs i j x other = elim (slice_get_cases xs j).1 [
  | inl found ↦
      slice_get-get_or (set xs i x) j found.0 (omega (arith, found.1, length-set xs i x))
      ∙ ap (λ (y : X). Some y) (get_or-set_other xs i j x found.0 other ∙ found.3) ∙ sym found.2
  | inr past ↦ slice_get_past (set xs i x) j (omega (arith, past.0, length-set xs i x)) ∙ sym past.1
]

-- ---- the last of some places, and the first

pub up_to : (i n : ℕ) → i < n + 1 → (i < n) ⊎ (i ≡ n)
up_to i n lt = grind arith

pub from_on : (n i : ℕ) → n ≤ i → (n + 1 ≤ i) ⊎ (i ≡ n)
from_on n i le = grind arith
