-- The places of statements, as filings are added.
use Rattle.std.proofs.Common.{◌≡◌, ℕ, ◌+◌, ◌<◌, List, [], ◌∷◌, ◌++◌, length, Bool, false, Option, Some, option_and_then, append-nil, append_assoc, length-append, refl, ◌∙◌, sym, ap, subst, arith}
use Rattle.std.specs.Prelude.{if◌then◌else◌}
use Rattle.std.specs.List.{AllByRecursion, filter, filter_map, last_or}
use Rattle.std.proofs.lemmas.List.Elements.{filter-append, filter_map-append}
use Rattle.std.proofs.iter.runs.Lists.{nth_left}
use Rattle.std.proofs.lemmas.Bool.{cond_both}
use Rattle.bods_read.specs.declared.statement.Statement.{Statement}
use Rattle.bor_records.proofs.Lists.{all_map}
use Rattle.bor_register.specs.declared.filing.AcceptedFiling.{AcceptedFiling}
use Rattle.bor_register.specs.declared.memory.index.Place.{Place}
use Rattle.bor_register.specs.Memory.Sited.{Sited, ArePlacesOf, passes, places_from, sited_at, sited_from, sited_in}
use Rattle.bor_register.proofs.OnMemory.Lists.{all_append, get_next}

-- what stands at places within the filings stays where a filing is added
kept_places : (fs : List AcceptedFiling) (f : AcceptedFiling) (ps : List Place) → AllByRecursion (λ (p : Place). p.filing < length fs) ps → filter_map (sited_at (fs ++ f ∷ [])) ps ≡ filter_map (sited_at fs) ps
kept_places fs f [] h = refl
kept_places fs f (p ∷ ps) h = grind (arith, nth_left fs (f ∷ []) p.filing h.0, kept_places fs f ps h.1)

-- at the places of the filing's statements that pass, from those before on, these statements stand
new_places : (fs : List AcceptedFiling) (f : AcceptedFiling) (test : Statement → Bool) (before ss : List Statement) → f.statements ≡ before ++ ss
    → filter_map (sited_at (fs ++ f ∷ [])) (places_from test (length fs) (length before) ss) ≡ filter (λ (x : Sited). test x.statement) (sited_from (length fs) f (length before) ss)
new_places fs f test before [] e = refl
new_places fs f test before (s ∷ ss) e = grind (arith, here, subst later long (new_places fs f test (before ++ s ∷ []) ss (e ∙ sym (append_assoc before (s ∷ []) ss))))
  where
    p : Place
    p = record { filing = length fs; statement = length before }

    x : Sited
    x = record { filing = f; place = p; statement = s }

    here : sited_at (fs ++ f ∷ []) p ≡ Some x
    here = grind (arith, get_next fs f [], e, get_next before s ss)

    long : length (before ++ s ∷ []) ≡ length before + 1
    long = omega (arith, length-append before (s ∷ []))

    later : ℕ → Type 0
    later n = filter_map (sited_at (fs ++ f ∷ [])) (places_from test (length fs) n ss) ≡ filter (λ (y : Sited). test y.statement) (sited_from (length fs) f n ss)

sited_more : (i : ℕ) (fs : List AcceptedFiling) (f : AcceptedFiling) → sited_in i (fs ++ f ∷ []) ≡ sited_in i fs ++ sited_from (i + length fs) f 0 f.statements
sited_more i [] f = append-nil (sited_from i f 0 f.statements) ∙ ap (λ (n : ℕ). sited_from n f 0 f.statements) (let same : i ≡ i + 0 = omega arith in same)
sited_more i (g ∷ gs) f =
    grind (arith, sited_more (i + 1) gs f, append_assoc (sited_from i g 0 g.statements) (sited_in (i + 1) gs) (sited_from (i + 1 + length gs) f 0 f.statements))

within_new : (test : Statement → Bool) (i j n : ℕ) (ss : List Statement) → i < n → AllByRecursion (λ (p : Place). p.filing < n) (places_from test i j ss)
within_new test i j n [] lt = tt
within_new test i j n (s ∷ ss) lt =
    let rest = within_new test i (j + 1) n ss lt in cond_both (test s) _ _ (AllByRecursion (λ (p : Place). p.filing < n)) (λ e. (lt, rest)) (λ e. rest)

-- places with those of one more filing
pub places_more : (fs : List AcceptedFiling) (f : AcceptedFiling) (test : Statement → Bool) (ps : List Place) → ArePlacesOf fs test ps → ArePlacesOf (fs ++ f ∷ []) test (ps ++ places_from test (length fs) 0 f.statements)
places_more fs f test ps h = record { told = told; within = within }
  where
    new : List Place
    new = places_from test (length fs) 0 f.statements

    fits : Sited → Bool
    fits x = test x.statement

    told : filter_map (sited_at (fs ++ f ∷ [])) (ps ++ new) ≡ filter fits (sited_in 0 (fs ++ f ∷ []))
    told =
        let kept = kept_places fs f ps h.within ∙ h.told in
        let seam = filter-append fits (sited_in 0 fs) (sited_from (length fs) f 0 f.statements) in
        grind (arith, filter_map-append (sited_at (fs ++ f ∷ [])) ps new, kept, new_places fs f test [] f.statements refl, sited_more 0 fs f, seam)

    long : length (fs ++ f ∷ []) ≡ length fs + 1
    long = omega (arith, length-append fs (f ∷ []))

    within : AllByRecursion (λ (p : Place). p.filing < length (fs ++ f ∷ [])) (ps ++ new)
    within = all_append (λ (p : Place). p.filing < length (fs ++ f ∷ [])) ps new
        (all_map (λ (p : Place). p.filing < length fs) (λ (p : Place). p.filing < length (fs ++ f ∷ [])) ps (λ p lt. omega (arith, lt, long)) h.within)
        (within_new test (length fs) 0 (length (fs ++ f ∷ [])) f.statements (omega (arith, long)))

pub places_none : (test : Statement → Bool) (ps : List Place) → ps ≡ [] → ArePlacesOf [] test ps
places_none test ps e = subst (ArePlacesOf [] test) (sym e) (record { told = refl; within = tt })

-- nothing is added where none passes
pub no_places : (test : Statement → Bool) (i j : ℕ) (ss : List Statement) → ((s : Statement) → test s ≡ false) → places_from test i j ss ≡ []
no_places test i j [] h = refl
no_places test i j (s ∷ ss) h = ap (λ (b : Bool). if b then record { filing = i; statement = j } ∷ places_from test i (j + 1) ss else places_from test i (j + 1) ss) (h s) ∙ no_places test i (j + 1) ss h

-- what stands at the last place that passes is the last statement that passes
pub picked : (at : Place → Option Sited) (test : Sited → Bool) (o : Option Place) (ps : List Place) → option_and_then at (last_or o (filter (λ p. passes test (at p)) ps)) ≡ last_or (option_and_then at o) (filter test (filter_map at ps))
picked at test o [] = refl
picked at test o (p ∷ ps) = grind (arith, picked at test (Some p) ps, picked at test o ps)
