-- A filing is followed where the last live statement of one of its records stands in a later filing.
use Rattle.std.proofs.Common.{◌≡◌, ℕ, zero, suc, ◌+◌, ◌≤◌, ◌<◌, List, [], ◌∷◌, ◌++◌, length, get_or, drop, Bool, true, false, ◌&&◌, ◌||◌, Option, Some, None, option_map, refl, sym, ap, ◌∙◌, arith}
use Rattle.std.specs.Prelude.{nat_lt}
use Rattle.std.specs.List.{filter, filter_map, last_or, list_any}
use Rattle.std.proofs.Math.Bool.{or-false}
use Rattle.std.proofs.lemmas.Bool.Decides.{nat_tests}
use Rattle.std.proofs.lemmas.List.{at_drop_more}
use Rattle.std.proofs.lemmas.List.Folds.{list_any-append}
use Rattle.bods_read.specs.declared.statement.Statement.{Statement}
use Rattle.bor_records.specs.Admission.{is_of}
use Rattle.bor_records.specs.declared.links.node.Node.{Node}
use Rattle.bor_records.proofs.OnLinks.Sames.{any_like, any_turn}
use Rattle.bor_register.specs.Withdrawal.{shares_record}
use Rattle.bor_register.specs.declared.filing.AcceptedFiling.{AcceptedFiling}
use Rattle.bor_register.specs.declared.memory.index.Place.{Place}
use Rattle.bor_register.specs.Memory.Indexed.{has_record}
use Rattle.bor_register.specs.Memory.Sited.{Sited, ArePlacesOf, passes, sited_at, sited_from, sited_in}
use Rattle.bor_register.proofs.OnMemory.Sighted.{record_is}
use Rattle.bor_register.proofs.OnMemory.Withdrawn.{site_is}

-- ---- where the last statement stands

abbrev pub is_later : ℕ → Option Place → Bool
is_later at None = false
is_later at (Some p) = nat_lt at p.filing

abbrev place_of : Option Sited → Option Place
place_of o = option_map (λ (x : Sited). x.place) o

-- the last place at which a statement stands is that of the last statement
last_place : (fs : List AcceptedFiling) (o : Option Sited) (ps : List Place) → last_or (place_of o) (filter (λ p. passes (λ x. true) (sited_at fs p)) ps) ≡ place_of (last_or o (filter_map (sited_at fs) ps))
last_place fs o [] = refl
last_place fs o (p ∷ ps) =
    let found : List Place = filter (λ (q : Place). passes (λ x. true) (sited_at fs q)) ps in
    let more = λ (x : Sited) (is : sited_at fs p ≡ Some x). ap (λ (q : Place). last_or (Some q) found) (sym (site_is fs p x is)) ∙ last_place fs (Some x) ps in
    grind (arith, last_place fs o ps, more)

-- ---- later filings come last

abbrev Rises : ℕ → List Sited → Type 0
Rises low [] = Unit {0}
Rises low (x ∷ xs) = (low ≤ x.place.filing) × Rises x.place.filing xs

rises_on : (low lower : ℕ) (xs : List Sited) → lower ≤ low → Rises low xs → Rises lower xs
rises_on low lower [] le h = tt
rises_on low lower (x ∷ xs) le h = (let here = h.0 in omega (arith, here), h.1)

rises_from : (i : ℕ) (f : AcceptedFiling) (j : ℕ) (ss : List Statement) (xs : List Sited) → Rises i xs → Rises i (sited_from i f j ss ++ xs)
rises_from i f j [] xs h = h
rises_from i f j (s ∷ ss) xs h = (omega arith, rises_from i f (j + 1) ss xs h)

rises_in : (i : ℕ) (fs : List AcceptedFiling) → Rises i (sited_in i fs)
rises_in i [] = tt
rises_in i (f ∷ fs) = rises_from i f 0 f.statements (sited_in (i + 1) fs) (rises_on (i + 1) i (sited_in (i + 1) fs) (omega arith) (rises_in (i + 1) fs))

abbrev IsWithin : ℕ → Option Sited → Type 0
IsWithin low None = Unit {0}
IsWithin low (Some x) = x.place.filing ≤ low

-- the last one that passes is later where any is
last_later : (at : ℕ) (test : Sited → Bool) (o : Option Sited) (low : ℕ) (xs : List Sited) → Rises low xs → IsWithin low o
    → is_later at (place_of (last_or o (filter test xs))) ≡ (is_later at (place_of o) || list_any (λ (x : Sited). test x && nat_lt at x.place.filing) xs)
last_later at test o low [] rises within = sym (or-false (is_later at (place_of o)))
last_later at test o low (x ∷ xs) rises within =
    let le = rises.0 in
    let over : IsWithin x.place.filing o = grind arith in
    grind (arith, last_later at test (Some x) x.place.filing xs rises.1 (omega arith), last_later at test o x.place.filing xs rises.1 over, nat_tests)

-- ---- statements of later filings

module _ (at : ℕ) (test : Statement → Bool) where
  abbrev after : Sited → Bool
  after x = test x.statement && nat_lt at x.place.filing

  none_after : (i : ℕ) (f : AcceptedFiling) (j : ℕ) (ss : List Statement) → nat_lt at i ≡ false → list_any after (sited_from i f j ss) ≡ false
  none_after i f j [] e = refl
  none_after i f j (s ∷ ss) e = grind (arith, e, none_after i f (j + 1) ss e)

  all_after : (i : ℕ) (f : AcceptedFiling) (j : ℕ) (ss : List Statement) → nat_lt at i ≡ true → list_any after (sited_from i f j ss) ≡ list_any test ss
  all_after i f j [] e = refl
  all_after i f j (s ∷ ss) e = grind (arith, e, all_after i f (j + 1) ss e)

  any_later : (i : ℕ) (fs : List AcceptedFiling) → at < i → list_any after (sited_in i fs) ≡ list_any (λ (g : AcceptedFiling). list_any test g.statements) fs
  any_later i [] lt = refl
  any_later i (f ∷ fs) lt =
      grind (arith, list_any-append after (sited_from i f 0 f.statements) (sited_in (i + 1) fs), all_after i f 0 f.statements (grind (arith, nat_tests)), any_later (i + 1) fs (omega arith))

  -- where the filing is the one at index m of these
  any_dropped : (i m : ℕ) (fs : List AcceptedFiling) → at ≡ i + m → list_any after (sited_in i fs) ≡ list_any (λ (g : AcceptedFiling). list_any test g.statements) (drop (suc m) fs)
  any_dropped i m [] is = refl
  any_dropped i zero (f ∷ fs) is =
      let same : at ≡ i = omega (arith, is) in
      grind (arith, list_any-append after (sited_from i f 0 f.statements) (sited_in (i + 1) fs), none_after i f 0 f.statements (grind (arith, nat_tests)), any_later (i + 1) fs (omega (arith, is)))
  any_dropped i (suc m) (f ∷ fs) is =
      let le : i ≤ at = omega (arith, is) in
      grind (arith, list_any-append after (sited_from i f 0 f.statements) (sited_in (i + 1) fs), none_after i f 0 f.statements (grind (arith, nat_tests)), any_dropped (i + 1) m fs (omega (arith, is)))

-- the last place at which a statement of the record stands is later where a later filing has one
pub followed : (n : Node) (at : ℕ) (fs : List AcceptedFiling) (ps : List Place) → ArePlacesOf fs (has_record n) ps
    → is_later at (last_or None (filter (λ p. passes (λ x. true) (sited_at fs p)) ps)) ≡ list_any (λ (g : AcceptedFiling). list_any (is_of n.declaration n.rec) g.statements) (drop (at + 1) fs)
followed n at fs ps places =
    ap (is_later at) (last_place fs None ps ∙ ap (λ (xs : List Sited). place_of (last_or None xs)) places.told)
    ∙ last_later at (λ (x : Sited). has_record n x.statement) None 0 (sited_in 0 fs) (rises_in 0 fs) tt
    ∙ any_dropped at (has_record n) 0 at fs (omega arith)
    ∙ any_like (λ (g : AcceptedFiling). list_any (has_record n) g.statements) (λ (g : AcceptedFiling). list_any (is_of n.declaration n.rec) g.statements) (drop (suc at) fs)
    (λ g. any_like (has_record n) (is_of n.declaration n.rec) g.statements (λ s. sym (record_is n s)))
    ∙ ap (λ (k : ℕ). list_any (λ (g : AcceptedFiling). list_any (is_of n.declaration n.rec) g.statements) (drop k fs)) (let one : suc at ≡ at + 1 = omega arith in one)

-- ---- the statements of a filing, one by one

-- a later filing has a live statement of the statement's record
abbrev pub is_shared : List AcceptedFiling → Statement → Bool
is_shared later s = list_any (λ (g : AcceptedFiling). list_any (is_of s.declaration s.rec) g.statements) later

pub any_shared : (f : AcceptedFiling) (later : List AcceptedFiling) → list_any (is_shared later) f.statements ≡ list_any (shares_record f) later
any_shared f later = sym (any_turn (λ (g : AcceptedFiling) (s : Statement). list_any (is_of s.declaration s.rec) g.statements) later f.statements)

-- one of them is
pub one_shared : (later : List AcceptedFiling) (ss : List Statement) (i : ℕ) (s : Statement) → i < length ss → s ≡ get_or ss i s → is_shared later s ≡ true → list_any (is_shared later) (drop i ss) ≡ true
one_shared later ss i s lt is hit = rw (at_drop_more (list_any (is_shared later)) ss i s lt, ← is, hit) refl
