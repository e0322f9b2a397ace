-- A filing has a successor where the last statement of one of its records stands in a later filing.
use Rattle.std.proofs.Common.{◌≡◌, ℕ, ◌+◌, ◌<◌, ◌≤◌, ◌==◌, Bool, true, false, ◌&&◌, ◌||◌, List, [], ◌∷◌, ◌++◌, append-nil, Option, Some, None, refl, sym, ap, ap₂, ◌∙◌, arith, if◌then◌else◌, filter, nat_lt, rules, eqb-true, le-ltb, lt-ltb}
use Rattle.std.specs.List.{list_any, last_or}
use Rattle.std.proofs.Math.Bool.{and-true, and-false, or-false, or_assoc}
use Rattle.std.proofs.lemmas.Bool.Decides.{nat_tests}
use Rattle.std.proofs.lemmas.List.Elements.{filter-append}
use Rattle.std.proofs.lemmas.List.Folds.{list_any-append}
use Rattle.bods_read.specs.declared.statement.Statement.{Statement}
use Rattle.bor_records.specs.Admission.{is_of}
use Rattle.bor_records.proofs.OnLinks.Sames.{any_turn, any_like}
use Rattle.bor_register.specs.Withdrawal.{shares_record, has_successor}
use Rattle.bor_register.specs.declared.filing.AcceptedFiling.{AcceptedFiling}
use Rattle.bor_store_sql.specs.declared.rows.typed.Placed.{Placed}
use Rattle.bor_store_sql.specs.Rows.Placed.{placed_from, placed_by}
use Rattle.bor_store_sql.specs.Rows.Seen.{is_of_record_of, is_later}
use Rattle.bor_store_sql.specs.Rows.Stored.{AreNumbered}
use Rattle.bor_store_sql.proofs.OnRows.Numbers.{same_number, other_number}
use Rattle.bor_store_sql.proofs.OnRows.Each.{each_by, each_from}
use Rattle.sqlite_keyed.proofs.ListLemmas.{filter_all, filter_none}

-- ---- statements of a record in later filings

abbrev after : ℕ → Placed → Placed → Bool
after number p q = is_of_record_of p q && nat_lt number q.at.filing

none_after : (number : ℕ) (p : Placed) (agent : List ℕ) (filing place : ℕ) (ss : List Statement) → nat_lt number filing ≡ false → list_any (after number p) (placed_from agent filing place ss) ≡ false
none_after number p agent filing place [] e = refl
none_after number p agent filing place (s ∷ ss) e = rw (e, none_after number p agent filing (place + 1) ss e) (ap (λ b. b || false) (and-false (is_of p.statement.declaration p.statement.rec s)))

all_after : (number : ℕ) (p : Placed) (agent : List ℕ) (filing place : ℕ) (ss : List Statement) → nat_lt number filing ≡ true
    → list_any (after number p) (placed_from agent filing place ss) ≡ list_any (is_of p.statement.declaration p.statement.rec) ss
all_after number p agent filing place [] e = refl
all_after number p agent filing place (s ∷ ss) e = rw (e, all_after number p agent filing (place + 1) ss e) (ap (λ b. b || list_any (is_of p.statement.declaration p.statement.rec) ss) (and-true (is_of p.statement.declaration p.statement.rec s)))

later_after : (number : ℕ) (p : Placed) (agent : List ℕ) (n : ℕ) (gs : List AcceptedFiling) → number < n → AreNumbered n gs
    → list_any (after number p) (placed_by agent gs) ≡ list_any (λ (g : AcceptedFiling). list_any (is_of p.statement.declaration p.statement.rec) g.statements) gs
later_after number p agent n [] low numbered = refl
later_after number p agent n (g ∷ gs) low numbered = search (rules, list_any-append, all_after, lt-ltb, later_after number p agent (n + 1) gs)

-- ---- the statements of a filing

pub own_filing : (agent : List ℕ) (number place : ℕ) (ss : List Statement) → filter (λ (p : Placed). p.at.filing == number) (placed_from agent number place ss) ≡ placed_from agent number place ss
own_filing agent number place ss = filter_all (λ (p : Placed). p.at.filing == number) (placed_from agent number place ss) (each_from (λ p. (p.at.filing == number) ≡ true) agent number place ss (λ k s low. same_number number))

pub other_filing : (agent : List ℕ) (number filing place : ℕ) (ss : List Statement) → (filing == number) ≡ false → filter (λ (p : Placed). p.at.filing == number) (placed_from agent filing place ss) ≡ []
other_filing agent number filing place ss e = filter_none (λ (p : Placed). p.at.filing == number) (placed_from agent filing place ss) (each_from (λ p. (p.at.filing == number) ≡ false) agent filing place ss (λ k s low. e))

pub none_filed : (agent : List ℕ) (number n : ℕ) (gs : List AcceptedFiling) → number < n → AreNumbered n gs → filter (λ (p : Placed). p.at.filing == number) (placed_by agent gs) ≡ []
none_filed agent number n gs low numbered =
    filter_none (λ (p : Placed). p.at.filing == number) (placed_by agent gs) (each_by (λ p. (p.at.filing == number) ≡ false) agent n gs numbered (λ filing place s later. other_number number filing (omega (arith, later))))

any_statement : (h : Statement → Bool) (agent : List ℕ) (number place : ℕ) (ss : List Statement) → list_any (λ (p : Placed). h p.statement) (placed_from agent number place ss) ≡ list_any h ss
any_statement h agent number place [] = refl
any_statement h agent number place (s ∷ ss) = ap (λ b. h s || b) (any_statement h agent number (place + 1) ss)

-- ---- by any later statement

abbrev succeeded : List ℕ → ℕ → List AcceptedFiling → Bool
succeeded agent number fs = list_any (λ p. list_any (after number p) (placed_by agent fs)) (filter (λ (p : Placed). p.at.filing == number) (placed_by agent fs))

pub is_number : (n m : ℕ) → (n == m) ≡ true → n ≡ m
is_number n m e = eqb-true n m e

own_succeeded : (agent : List ℕ) (f : AcceptedFiling) (fs : List AcceptedFiling) (n : ℕ) → f.number < n → AreNumbered n fs → list_any (shares_record f) fs ≡ succeeded agent f.number (f ∷ fs)
own_succeeded agent f fs n low numbered =
    any_turn (λ (g : AcceptedFiling) (s : Statement). list_any (is_of s.declaration s.rec) g.statements) fs f.statements
    ∙ sym (any_statement (λ s. list_any (λ (g : AcceptedFiling). list_any (is_of s.declaration s.rec) g.statements) fs) agent f.number 1 f.statements)
    ∙ sym (any_like (λ (p : Placed). list_any (after f.number p) (placed_by agent (f ∷ fs))) (λ (p : Placed). list_any (λ (g : AcceptedFiling). list_any (is_of p.statement.declaration p.statement.rec) g.statements) fs)
    (placed_from agent f.number 1 f.statements)
    (λ p. list_any-append (after f.number p) (placed_from agent f.number 1 f.statements) (placed_by agent fs)
    ∙ ap₂ (λ a b. a || b) (none_after f.number p agent f.number 1 f.statements (le-ltb f.number f.number (omega arith))) (later_after f.number p agent n fs low numbered)))
    ∙ sym (ap (list_any (λ p. list_any (after f.number p) (placed_by agent (f ∷ fs))))
    (filter-append (λ (p : Placed). p.at.filing == f.number) (placed_from agent f.number 1 f.statements) (placed_by agent fs)
    ∙ ap₂ (λ xs ys. xs ++ ys) (own_filing agent f.number 1 f.statements) (none_filed agent f.number n fs low numbered)
    ∙ append-nil (placed_from agent f.number 1 f.statements)))

other_succeeded : (agent : List ℕ) (number : ℕ) (f : AcceptedFiling) (fs : List AcceptedFiling) (n : ℕ) → f.number < n → AreNumbered n fs → (f.number == number) ≡ false → succeeded agent number fs ≡ succeeded agent number (f ∷ fs)
other_succeeded agent number f fs n low numbered e = go (nat_lt number f.number) refl
  where
    kept : filter (λ (p : Placed). p.at.filing == number) (placed_by agent (f ∷ fs)) ≡ filter (λ (p : Placed). p.at.filing == number) (placed_by agent fs)
    kept =
        filter-append (λ (p : Placed). p.at.filing == number) (placed_from agent f.number 1 f.statements) (placed_by agent fs)
        ∙ ap (λ xs. xs ++ filter (λ (p : Placed). p.at.filing == number) (placed_by agent fs)) (other_filing agent number f.number 1 f.statements e)

    go : (b : Bool) → nat_lt number f.number ≡ b → succeeded agent number fs ≡ succeeded agent number (f ∷ fs)
    go true low_is =
        let none = none_filed agent number n fs (grind (arith, nat_tests)) numbered in
        ap (list_any (λ p. list_any (after number p) (placed_by agent fs))) none ∙ sym (ap (list_any (λ p. list_any (after number p) (placed_by agent (f ∷ fs)))) (kept ∙ none))
    go false not_low =
        any_like (λ p. list_any (after number p) (placed_by agent fs)) (λ p. list_any (after number p) (placed_by agent (f ∷ fs))) (filter (λ (p : Placed). p.at.filing == number) (placed_by agent fs))
        (λ p. sym (list_any-append (after number p) (placed_from agent f.number 1 f.statements) (placed_by agent fs)
        ∙ ap (λ a. a || list_any (after number p) (placed_by agent fs)) (none_after number p agent f.number 1 f.statements not_low)))
        ∙ sym (ap (list_any (λ p. list_any (after number p) (placed_by agent (f ∷ fs)))) kept)

successor_any : (agent : List ℕ) (number n : ℕ) (fs : List AcceptedFiling) → AreNumbered n fs → has_successor number fs ≡ succeeded agent number fs
successor_any agent number n [] numbered = refl
successor_any agent number n (f ∷ fs) numbered = search (rules, own_succeeded, other_succeeded, is_number, successor_any agent number (n + 1) fs)

-- ---- by the last statement

abbrev Rises : ℕ → List Placed → Type 0
Rises low [] = Unit {0}
Rises low (p ∷ ps) = (low ≤ p.at.filing) × Rises p.at.filing ps

rises_on : (low low2 : ℕ) (ps : List Placed) → low2 ≤ low → Rises low ps → Rises low2 ps
rises_on low low2 [] le h = tt
rises_on low low2 (p ∷ ps) le h = (let here = h.0 in omega (arith, here), h.1)

rises_from : (agent : List ℕ) (filing place : ℕ) (ss : List Statement) (ps : List Placed) → Rises filing ps → Rises filing (placed_from agent filing place ss ++ ps)
rises_from agent filing place [] ps h = h
rises_from agent filing place (s ∷ ss) ps h = (omega arith, rises_from agent filing (place + 1) ss ps h)

rises_by : (agent : List ℕ) (n : ℕ) (fs : List AcceptedFiling) → AreNumbered n fs → Rises n (placed_by agent fs)
rises_by agent n [] numbered = tt
rises_by agent n (f ∷ fs) numbered = search (rules, rises_on, rises_from, rises_by agent (n + 1) fs)

abbrev IsWithin : ℕ → Option Placed → Type 0
IsWithin low None = Unit {0}
IsWithin low (Some p) = p.at.filing ≤ low

within_on : (low low2 : ℕ) (o : Option Placed) → low ≤ low2 → IsWithin low o → IsWithin low2 o
within_on low low2 o le h = search rules

later_or : (number : ℕ) (o : Option Placed) (m : ℕ) → IsWithin m o → (is_later number o || nat_lt number m) ≡ nat_lt number m
later_or number o m h = search rules

last_later : (number : ℕ) (q : Placed → Bool) (o : Option Placed) (low : ℕ) (ps : List Placed) → Rises low ps → IsWithin low o
    → is_later number (last_or o (filter q ps)) ≡ (is_later number o || list_any (λ (p : Placed). q p && nat_lt number p.at.filing) ps)
last_later number q o low [] rises within = sym (or-false (is_later number o))
last_later number q o low (p ∷ ps) rises within =
    go (q p) (last_later number q (Some p) p.at.filing ps rises.1 (omega arith)) (last_later number q o p.at.filing ps rises.1 (within_on low p.at.filing o rises.0 within))
    (later_or number o p.at.filing (within_on low p.at.filing o rises.0 within))
  where
    any : Bool
    any = list_any (λ (r : Placed). q r && nat_lt number r.at.filing) ps

    go : (b : Bool) → is_later number (last_or (Some p) (filter q ps)) ≡ (nat_lt number p.at.filing || any) → is_later number (last_or o (filter q ps)) ≡ (is_later number o || any)
        → (is_later number o || nat_lt number p.at.filing) ≡ nat_lt number p.at.filing
        → is_later number (last_or o (if b then p ∷ filter q ps else filter q ps)) ≡ (is_later number o || ((b && nat_lt number p.at.filing) || any))
    go true taken passed covered = taken ∙ ap (λ b. b || any) (sym covered) ∙ or_assoc (is_later number o) (nat_lt number p.at.filing) any
    go false taken passed covered = passed

-- a filing has a successor where the last statement of a record of one of its statements stands in a later filing
pub successor_is : (agent : List ℕ) (number n : ℕ) (fs : List AcceptedFiling) → AreNumbered n fs
    → list_any (λ p. is_later number (last_or None (filter (is_of_record_of p) (placed_by agent fs)))) (filter (λ (p : Placed). p.at.filing == number) (placed_by agent fs)) ≡ has_successor number fs
successor_is agent number n fs numbered =
    any_like (λ p. is_later number (last_or None (filter (is_of_record_of p) (placed_by agent fs)))) (λ p. list_any (after number p) (placed_by agent fs)) (filter (λ (p : Placed). p.at.filing == number) (placed_by agent fs))
    (λ p. last_later number (is_of_record_of p) None n (placed_by agent fs) (rises_by agent n fs numbered) tt)
    ∙ sym (successor_any agent number n fs numbered)
