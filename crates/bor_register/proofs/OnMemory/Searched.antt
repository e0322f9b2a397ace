-- The filings of an agent, found among members in the order of their names.
use Rattle.std.proofs.Common.{◌≡◌, ◌<◌, ◌+◌, ℕ, zero, suc, true, false, Ok, Err, List, [], ◌∷◌, length, get_or, sym, ap, ◌∙◌, refl, subst, arith, inl, inr}
use Rattle.std.specs.List.Sorted.{IsBinarySearchResult, IsNonDecreasingBy, IsPartitionPoint, IsSearchInRange}
use Rattle.std.specs.Ordering.{is_lt, nat_cmp, ordering_index, ordering_reverse}
use Rattle.std.specs.declared.cmp.Ordering.TheVariants.{Less, Greater}
use Rattle.std.specs.Cmp.Lexicographic.{slice_cmp}
use Rattle.std.proofs.lemmas.Bool.{cases_lt, false_from_ne_true}
use Rattle.std.proofs.lemmas.Cmp.{nat_list_cmp_total}
use Rattle.std.proofs.lemmas.List.Sorted.{searchable_from_sorted}
use Rattle.std.proofs.lemmas.Map.Lookups.{exact_bytes}
use Rattle.bor_terms.specs.Texts.{is_below, is_same}
use Rattle.bor_terms.proofs.Texts.{below_differs, below_irrefl, below_trans, is_same-of, same_is}
use Rattle.bor_register.specs.declared.member.Member.{Member}
use Rattle.bor_register.specs.Register.{AllAbove, IsOrdered, filings_of}

-- ---- names that go up

above_at : (low : List ℕ) (ms : List Member) (j : ℕ) (d : Member) → AllAbove low ms → j < length ms → is_below low (get_or ms j d).name ≡ true
above_at low [] j d h lt = absurd (let no : ⊥ = omega (arith, lt) in no)
above_at low (m ∷ ms) zero d h lt = h.0
above_at low (m ∷ ms) (suc j) d h lt = above_at low ms j d h.1 (omega (arith, lt))

-- none that comes later is below
sorted : (ms : List Member) (i j : ℕ) (d : Member) → IsOrdered ms → i < j → j < length ms → is_below (get_or ms j d).name (get_or ms i d).name ≡ false
sorted [] i j d o up lt = absurd (let no : ⊥ = omega (arith, lt) in no)
sorted (m ∷ ms) i zero d o up lt = absurd (let no : ⊥ = omega (arith, up) in no)
sorted (m ∷ ms) zero (suc j) d o up lt =
    grind (arith, above_at m.name ms j d o.0 (omega (arith, lt)), below_trans m.name (get_or ms j d).name m.name, below_irrefl m.name)
sorted (m ∷ ms) (suc i) (suc j) d o up lt = sorted ms i j d o.1 (omega (arith, up)) (omega (arith, lt))

searchable : (ms : List Member) (name : List ℕ) → IsOrdered ms → IsNonDecreasingBy (λ (m : Member). ordering_index (slice_cmp nat_cmp m.name name)) ms
searchable ms name o = searchable_from_sorted nat_list_cmp_total (λ (m : Member). m.name) ms name (λ k d low lt. sorted ms k (k + 1) d o (omega arith) lt)

-- ---- the filings at a place

at_place : (name : List ℕ) (ms : List Member) (i : ℕ) (d : Member) → IsOrdered ms → i < length ms → (get_or ms i d).name ≡ name → (get_or ms i d).filings ≡ filings_of name ms
at_place name [] i d o lt e = absurd (let no : ⊥ = omega (arith, lt) in no)
at_place name (m ∷ ms) zero d o lt e = rw (is_same-of m.name name e) refl
at_place name (m ∷ ms) (suc i) d o lt e =
    rw (below_differs m.name name (subst (λ (n : List ℕ). is_below m.name n ≡ true) e (above_at m.name ms i d o.0 (omega (arith, lt))))) (at_place name ms i d o.1 (omega (arith, lt)) e)

nowhere : (name : List ℕ) (ms : List Member) → ((i : ℕ) (d : Member) → i < length ms → (get_or ms i d).name ≡ name → ⊥) → [] ≡ filings_of name ms
nowhere name [] gone = refl
nowhere name (m ∷ ms) gone =
    rw (false_from_ne_true (is_same m.name name) (λ e. gone 0 m (omega arith) (same_is m.name name e))) (nowhere name ms (λ i d lt e. gone (suc i) d (omega (arith, lt)) e))

-- ---- what a search answers

pub found_at : (name : List ℕ) (ms : List Member) (i : ℕ) → IsOrdered ms → IsSearchInRange (Ok i) (length ms) → IsBinarySearchResult (λ (m : Member). slice_cmp nat_cmp m.name name) ms (Ok i) → (d : Member) → (get_or ms i d).filings ≡ filings_of name ms
found_at name ms i o lt found d = at_place name ms i d o lt (exact_bytes (get_or ms i d).name name (found d))

pub found_none : (name : List ℕ) (ms : List Member) (i : ℕ) → IsOrdered ms → IsBinarySearchResult (λ (m : Member). slice_cmp nat_cmp m.name name) ms (Err i) → [] ≡ filings_of name ms
found_none name ms i o found = nowhere name ms apart
  where
    point : IsPartitionPoint (λ (m : Member). slice_cmp nat_cmp m.name name ≡ Less) (λ (m : Member). slice_cmp nat_cmp m.name name ≡ Greater) ms i
    point = found (searchable ms name o)

    lower : (a b : List ℕ) → is_below a b ≡ true → a ≡ b → ⊥
    lower a b h e = let no : false ≡ true = sym (below_differs a b h) ∙ is_same-of a b e in cc

    apart : (k : ℕ) (d : Member) → k < length ms → (get_or ms k d).name ≡ name → ⊥
    apart k d lt e = elim (cases_lt k i) [
      | inl before ↦ lower (get_or ms k d).name name (ap is_lt (point.0 k d (omega arith) before)) e
      | inr after ↦ lower name (get_or ms k d).name (ap is_lt (nat_list_cmp_total.antisymm name (get_or ms k d).name ∙ ap ordering_reverse (point.1 k d after lt))) (sym e)
    ]
