-- Each statement of a stored register stands alone at its place.
use Rattle.std.proofs.Common.{inl, inr, ◌≡◌, ℕ, ◌==◌, false, List, [], ◌∷◌, ◌++◌, refl, ap, subst, ◌∙◌, arith, All, filter}
use Rattle.std.specs.List.{AllByRecursion}
use Rattle.std.proofs.lemmas.Bool.{cases_Bool}
use Rattle.std.proofs.lemmas.Bool.Decides.{nat_tests}
use Rattle.std.proofs.lemmas.List.Elements.{All-nil, All-cons, All-head, All-tail}
use Rattle.bor_terms.specs.Texts.{is_same}
use Rattle.bor_terms.proofs.Texts.{same_is, same_sym}
use Rattle.bor_register.specs.Register.{Register, filings_of}
use Rattle.bor_register.specs.declared.member.Member.{Member}
use Rattle.bor_store_sql.specs.Rows.Placed.{AreApart, placed, placed_by, same_place}
use Rattle.bor_store_sql.specs.Rows.Stored.{IsStored}
use Rattle.bor_store_sql.specs.declared.rows.places.At.{At}
use Rattle.bor_store_sql.specs.declared.rows.typed.Placed.{Placed}
use Rattle.bor_store_sql.proofs.OnRows.Apart.{all_apart}
use Rattle.bor_store_sql.specs.Selected.{placed_of}
use Rattle.bor_store_sql.proofs.OnRows.Joins.{at_itself}
use Rattle.sqlite_keyed.proofs.ListLemmas.{filter_none}

number_turned : (n m : ℕ) → (n == m) ≡ (m == n)
number_turned n m = grind (arith, nat_tests)

place_turned : (a b : At) → same_place a b ≡ same_place b a
place_turned a b = rw (same_sym a.agent b.agent, number_turned a.filing b.filing, number_turned a.place b.place) refl

-- the statement alone stands at its place
abbrev pub IsAlone : List Placed → Placed → Type 0
IsAlone ps p = filter (λ (q : Placed). same_place q.at p.at) ps ≡ p ∷ []

still_alone : (p : Placed) (ps qs : List Placed) → AllByRecursion (λ (q : Placed). same_place q.at p.at ≡ false) qs → All (IsAlone ps) qs → All (IsAlone (p ∷ ps)) qs
still_alone p ps [] off h = All-nil (IsAlone (p ∷ ps))
still_alone p ps (q ∷ qs) off h =
    All-cons (IsAlone (p ∷ ps)) q qs (rw (place_turned p.at q.at ∙ off.0) (All-head (IsAlone ps) q qs h)) (still_alone p ps qs off.1 (All-tail (IsAlone ps) q qs h))

pub each_alone : (ps : List Placed) → AreApart ps → All (IsAlone ps) ps
each_alone [] h = All-nil (IsAlone [])
each_alone (p ∷ ps) h =
    All-cons (IsAlone (p ∷ ps)) p ps (rw (at_itself p.at) (ap (λ l. p ∷ l) (filter_none (λ (q : Placed). same_place q.at p.at) ps h.0))) (still_alone p ps ps h.0 (each_alone ps h.1))

-- ---- an agent's statements

pub all_front : {X : Type 0} (P : X → Type 0) (xs ys : List X) → All P (xs ++ ys) → All P xs
all_front P [] ys h = All-nil P
all_front P (x ∷ xs) ys h = All-cons P x xs (All-head P x (xs ++ ys) h) (all_front P xs ys (All-tail P x (xs ++ ys) h))

pub all_back : {X : Type 0} (P : X → Type 0) (xs ys : List X) → All P (xs ++ ys) → All P ys
all_back P [] ys h = h
all_back P (x ∷ xs) ys h = all_back P xs ys (All-tail P x (xs ++ ys) h)

-- what holds of all statements holds of an agent's
pub own_placed : (P : Placed → Type 0) (agent : List ℕ) (ms : List Member) → All P (placed ms) → All P (placed_by agent (filings_of agent ms))
own_placed P agent [] h = h
own_placed P agent (m ∷ ms) h = elim (cases_Bool (is_same m.name agent)) [
  | inl e ↦ rw e (subst (λ a. All P (placed_by a m.filings)) (same_is m.name agent e) (all_front P (placed_by m.name m.filings) (placed ms) h))
  | inr e ↦ rw e (own_placed P agent ms (all_back P (placed_by m.name m.filings) (placed ms) h))
]

pub own_alone_at : (agent : List ℕ) (r : Register) → IsStored r → All (IsAlone (placed r.members)) (placed_of agent r)
own_alone_at agent r stored = own_placed (IsAlone (placed r.members)) agent r.members (each_alone (placed r.members) (all_apart r.members stored.ordered stored.numbered))
