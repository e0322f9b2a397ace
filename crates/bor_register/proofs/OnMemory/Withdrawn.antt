-- The places of statements, where a filing is withdrawn.
use Rattle.std.proofs.Common.{◌≡◌, ℕ, zero, suc, ◌+◌, ◌<◌, ◌≤◌, not, List, [], ◌∷◌, length, Bool, true, false, Option, Some, None, option_and_then, slice_get, refl, ◌∙◌, sym, ap, subst, arith}
use Rattle.std.specs.Prelude.{if◌then◌else◌, ◌==◌}
use Rattle.std.specs.List.{AllByRecursion, filter, filter_map}
use Rattle.std.proofs.lemmas.Bool.Decides.{nat_tests}
use Rattle.std.proofs.lemmas.List.Elements.{filter-append}
use Rattle.bods_read.specs.declared.statement.Statement.{Statement}
use Rattle.bor_register.specs.declared.filing.AcceptedFiling.{AcceptedFiling}
use Rattle.bor_register.specs.declared.memory.index.Place.{Place}
use Rattle.bor_register.specs.Withdrawal.{as_withdrawn, with_withdrawn}
use Rattle.bor_register.specs.Memory.Sited.{Sited, ArePlacesOf, sited_at, sited_from, sited_in, sited_of}
use Rattle.bor_register.proofs.OnMemory.Lists.{filters_swap}

-- the index of the filing with the number, where the first has index j
abbrev first_at : ℕ → ℕ → List AcceptedFiling → ℕ
first_at j number [] = j
first_at j number (f ∷ fs) = if f.number == number then j else first_at (j + 1) number fs

first_least : (j number : ℕ) (fs : List AcceptedFiling) → j ≤ first_at j number fs
first_least j number [] = omega arith
first_least j number (f ∷ fs) = grind (arith, first_least (j + 1) number fs)

-- ---- the statements of the other filings are left

abbrev elsewhere : ℕ → Sited → Bool
elsewhere m x = not (x.place.filing == m)

kept_from : (m i : ℕ) (f : AcceptedFiling) (j : ℕ) (ss : List Statement) → (i == m) ≡ false → filter (elsewhere m) (sited_from i f j ss) ≡ sited_from i f j ss
kept_from m i f j [] e = refl
kept_from m i f j (s ∷ ss) e = grind (arith, e, kept_from m i f (j + 1) ss e)

dropped_from : (m i : ℕ) (f : AcceptedFiling) (j : ℕ) (ss : List Statement) → (i == m) ≡ true → filter (elsewhere m) (sited_from i f j ss) ≡ []
dropped_from m i f j [] e = refl
dropped_from m i f j (s ∷ ss) e = grind (arith, e, dropped_from m i f (j + 1) ss e)

kept_in : (m i : ℕ) (fs : List AcceptedFiling) → m < i → filter (elsewhere m) (sited_in i fs) ≡ sited_in i fs
kept_in m i [] lt = refl
kept_in m i (f ∷ fs) lt =
    grind (arith, filter-append (elsewhere m) (sited_from i f 0 f.statements) (sited_in (i + 1) fs), kept_from m i f 0 f.statements (grind (arith, nat_tests)), kept_in m (i + 1) fs (omega (arith, lt)))

withdrawn_in : (j number : ℕ) (fs : List AcceptedFiling) → sited_in j (with_withdrawn number fs) ≡ filter (elsewhere (first_at j number fs)) (sited_in j fs)
withdrawn_in j number [] = refl
withdrawn_in j number (f ∷ fs) =
    let m = first_at (j + 1) number fs in
    let lt : j < m = omega (arith, first_least (j + 1) number fs) in
    let from = sited_from j f 0 f.statements in
    let rest = sited_in (j + 1) fs in
    grind (
      arith,
      withdrawn_in (j + 1) number fs,
      filter-append (elsewhere j) from rest,
      dropped_from j j f 0 f.statements (grind (arith, nat_tests)),
      kept_in j (j + 1) fs (omega arith),
      filter-append (elsewhere m) from rest,
      kept_from m j f 0 f.statements (grind (arith, nat_tests)),
    )

-- ---- what stands at a place of another filing stays

module _ (look : AcceptedFiling → Option Sited) (gone : (f : AcceptedFiling) → look (as_withdrawn f) ≡ None) where
  withdrawn_get : (j number : ℕ) (fs : List AcceptedFiling) (i : ℕ) → option_and_then look (slice_get (with_withdrawn number fs) i) ≡ (if j + i == first_at j number fs then None else option_and_then look (slice_get fs i))
  withdrawn_get j number [] i = grind arith
  withdrawn_get j number (f ∷ fs) zero = grind (arith, nat_tests, gone f, first_least (j + 1) number fs)
  withdrawn_get j number (f ∷ fs) (suc i) = grind (arith, nat_tests, withdrawn_get (j + 1) number fs i)

withdrawn_at : (number : ℕ) (fs : List AcceptedFiling) (p : Place) → sited_at (with_withdrawn number fs) p ≡ (if p.filing == first_at 0 number fs then None else sited_at fs p)
withdrawn_at number fs p = grind (arith, withdrawn_get (sited_of p) (λ f. refl) 0 number fs p.filing)

pub site_is : (fs : List AcceptedFiling) (p : Place) (x : Sited) → sited_at fs p ≡ Some x → x.place ≡ p
site_is fs p x e = grind arith

withdrawn_places : (number : ℕ) (fs : List AcceptedFiling) (ps : List Place) → filter_map (sited_at (with_withdrawn number fs)) ps ≡ filter (elsewhere (first_at 0 number fs)) (filter_map (sited_at fs) ps)
withdrawn_places number fs [] = refl
withdrawn_places number fs (p ∷ ps) =
    let site = λ (x : Sited) (is : sited_at fs p ≡ Some x). ap (λ (q : Place). q.filing == first_at 0 number fs) (site_is fs p x is) in
    grind (arith, withdrawn_at number fs p, withdrawn_places number fs ps, site)

long_withdrawn : (number : ℕ) (fs : List AcceptedFiling) → length (with_withdrawn number fs) ≡ length fs
long_withdrawn number [] = refl
long_withdrawn number (f ∷ fs) = grind (arith, long_withdrawn number fs)

-- the places stay those of the statements that are left
pub places_withdrawn : (number : ℕ) (fs : List AcceptedFiling) (test : Statement → Bool) (ps : List Place) → ArePlacesOf fs test ps → ArePlacesOf (with_withdrawn number fs) test ps
places_withdrawn number fs test ps h = record {
  told = withdrawn_places number fs ps ∙ ap (filter (elsewhere (first_at 0 number fs))) h.told ∙ filters_swap (elsewhere (first_at 0 number fs)) (λ (x : Sited). test x.statement) (sited_in 0 fs)
      ∙ ap (filter (λ (x : Sited). test x.statement)) (sym (withdrawn_in 0 number fs));
  within = subst (λ (n : ℕ). AllByRecursion (λ (p : Place). p.filing < n) ps) (sym (long_withdrawn number fs)) h.within;
}
