-- No two statements of a stored register stand at one place.
use Rattle.std.proofs.Common.{◌≡◌, ℕ, ◌+◌, ◌==◌, Bool, true, false, List, [], ◌∷◌, ◌++◌, refl, ◌∙◌, arith, filter, if◌then◌else◌}
use Rattle.std.specs.List.{AllByRecursion}
use Rattle.std.proofs.Math.Bool.{and-false}
use Rattle.sqlite_keyed.proofs.ListLemmas.{all-append, all-filter}
use Rattle.bor_terms.specs.Texts.{is_same}
use Rattle.bor_terms.proofs.Texts.{same_sym, below_differs}
use Rattle.bods_read.specs.declared.statement.Statement.{Statement}
use Rattle.bor_register.specs.declared.filing.AcceptedFiling.{AcceptedFiling}
use Rattle.bor_register.specs.declared.member.Member.{Member}
use Rattle.bor_register.specs.Register.{IsOrdered}
use Rattle.bor_store_sql.specs.declared.rows.places.At.{At}
use Rattle.bor_store_sql.specs.declared.rows.typed.Placed.{Placed}
use Rattle.bor_store_sql.specs.Rows.Placed.{same_place, placed_from, placed_by, placed, AreApart}
use Rattle.bor_store_sql.specs.Rows.Stored.{AreNumbered, AllNumbered}
use Rattle.bor_store_sql.specs.Fitting.{standing}
use Rattle.bor_store_sql.proofs.OnRows.Each.{each_above, each_by, each_from, each_own}
use Rattle.bor_store_sql.proofs.OnRows.Numbers.{other_number}

abbrev AllOff : At → List Placed → Type 0
AllOff at qs = AllByRecursion (λ (q : Placed). same_place q.at at ≡ false) qs

off_number : (a b : At) → (a.filing == b.filing) ≡ false → same_place a b ≡ false
off_number a b e = rw e refl

off_place : (a b : At) → (a.place == b.place) ≡ false → same_place a b ≡ false
off_place a b e = rw e (and-false (a.filing == b.filing))

off_name : (a b : At) → is_same a.agent b.agent ≡ false → same_place a b ≡ false
off_name a b e = rw (e, and-false (a.place == b.place)) (and-false (a.filing == b.filing))

apart_in : (agent : List ℕ) (filing n : ℕ) (ss : List Statement) → AreApart (placed_from agent filing n ss)
apart_in agent filing n [] = tt
apart_in agent filing n (s ∷ ss) = (each_from (λ q. same_place q.at (standing agent filing n s).at ≡ false) agent filing (n + 1) ss (λ place t low. off_place (standing agent filing place t).at (standing agent filing n s).at (other_number n place (omega (arith, low)))), apart_in agent filing (n + 1) ss)

apart_append : (xs ys : List Placed) → AreApart xs → AreApart ys → AllByRecursion (λ (x : Placed). AllOff x.at ys) xs → AreApart (xs ++ ys)
apart_append [] ys one two cross = two
apart_append (x ∷ xs) ys one two cross = (all-append _ xs ys one.0 cross.0, apart_append xs ys one.1 two cross.1)

pub apart_by : (agent : List ℕ) (n : ℕ) (fs : List AcceptedFiling) → AreNumbered n fs → AreApart (placed_by agent fs)
apart_by agent n [] up = tt
apart_by agent n (f ∷ fs) up =
    apart_append (placed_from agent f.number 1 f.statements) (placed_by agent fs) (apart_in agent f.number 1 f.statements) (apart_by agent (n + 1) fs up.1)
    (each_from (λ p. AllOff p.at (placed_by agent fs)) agent f.number 1 f.statements
    (λ place s from. each_by (λ q. same_place q.at (standing agent f.number place s).at ≡ false) agent (n + 1) fs up.1 (λ filing other t low. off_number (standing agent filing other t).at (standing agent f.number place s).at (other_number f.number filing (let e = up.0 in omega (arith, e, low))))))

pub all_apart : (ms : List Member) → IsOrdered ms → AllNumbered ms → AreApart (placed ms)
all_apart [] up all = tt
all_apart (m ∷ ms) up all =
    apart_append (placed_by m.name m.filings) (placed ms) (apart_by m.name 1 m.filings all.0) (all_apart ms up.1 all.1)
    (each_own (λ p. AllOff p.at (placed ms)) m.name m.filings
    (λ filing place s. each_above (λ q. same_place q.at (standing m.name filing place s).at ≡ false) m.name ms up.0 (λ agent number other t below. off_name (standing agent number other t).at (standing m.name filing place s).at (same_sym agent m.name ∙ below_differs m.name agent below))))

-- neither do some of them
pub apart_filter : (q : Placed → Bool) (ps : List Placed) → AreApart ps → AreApart (filter q ps)
apart_filter q [] h = tt
apart_filter q (p ∷ ps) h =
    elim (q p) as (λ b. AreApart (if b then p ∷ filter q ps else filter q ps)) [ true ↦ (all-filter (λ (r : Placed). same_place r.at p.at ≡ false) q ps h.0, apart_filter q ps h.1) | false ↦ apart_filter q ps h.1 ]
