-- The answers that were found stay right while the register that is shown stays.
use Rattle.std.proofs.Common.{◌≡◌, ◌∙◌, Bool, true, false, cond, Option, Some, None, ℕ, ℤ, List, Result, Ok, IfOk, MatchResult, sym, ap, refl, subst, Ordering, Equal}
use Rattle.std.specs.Ordering.{is_eq, nat_cmp, ordering_then}
use Rattle.std.proofs.lemmas.Map.Lookups.{CmpEqualImpliesEq, exact_bytes, exact_pairs, exact_unsigned}
use Rattle.std.proofs.lemmas.Option.{same_Some}
use Rattle.sqlite.specs.State.{State}
use Rattle.bor_records.specs.Links.Nodes.{text_cmp}
use Rattle.bor_records.specs.Links.Shown.{Shown}
use Rattle.bor_register.specs.Register.{Register}
use Rattle.bor_register.specs.Seen.{seen_at}
use Rattle.bor_store_sql.proofs.Finding.{known}
use Rattle.bor_store_sql.specs.declared.rows.places.At.{At}
use Rattle.bor_store_sql.specs.declared.rows.places.FilingKey.{FilingKey}
use Rattle.bor_store_sql.specs.Found.{ReadsOnly}
use Rattle.bor_store_sql.specs.Rows.Stored.{IsStored}
use Rattle.bor_store_sql.specs.Shown.{IsClean, ShowsIn, StaysUp}
use Rattle.bor_store_reads.specs.declared.fault.ReadError.{ReadError}
use Rattle.bor_store_reads.specs.Answering.{Answers, IsNoDamage, ReadsAs}
use Rattle.bor_store_reads.proofs.Found.{answered, still_shows}
use Rattle.bor_store_reads.proofs.Reading.{read_as, read_next}
use Rattle.bor_store_keys.specs.declared.found.Found.{Found}
use Rattle.bor_store_keys.specs.declared.view.View.{View}
use Rattle.bor_store_keys.specs.Viewed.{Viewing, seen}
use Rattle.bor_store_keys.specs.Finding.{AreOf, IsCurrent, Holds, filing_cmp, place_cmp}

-- a read leaves it
pub still_found : (found : Option Found) (old new : State) → ReadsOnly old new → IsCurrent old found → IsCurrent new found
still_found None old new reads h = tt
still_found (Some f) old new reads h = λ clean r shows. h (reads.began clean) r (still_shows r new old (sym (reads.kept clean)) shows)

-- what is read of the connection within is read of the lookup
pub read_within : {X : Type 0} {inside outside new : State} {result : Result X ReadError} {P : Register → X → Type 0} → inside ≡ outside → ReadsAs inside new result P → ReadsAs outside new result P
read_within {new = new} {result = result} {P = P} same was = subst (λ s. ReadsAs s new result P) same was

-- what is noted leaves what was read
pub read_noted : {X K : Type 0} (state_of : K → State) {old : State} {read noted : K} {result : Result X ReadError} {P : Register → X → Type 0} → noted ≡ read → ReadsAs old (state_of read) result P → ReadsAs old (state_of noted) result P
read_noted state_of {old = old} {result = result} {P = P} same was = subst (λ k. ReadsAs old (state_of k) result P) (sym same) was

pub read_left : {X : Type 0} {old read new : State} {result : Result X ReadError} {P : Register → X → Type 0} → new ≡ read → ReadsAs old read result P → ReadsAs old new result P
read_left {old = old} {result = result} {P = P} same was = subst (λ s. ReadsAs old s result P) (sym same) was

-- lists in memory answer after what was read
pub read_listed : {X Y K : Type 0} (state_of : K → State) {old : State} {read left : K} {y : Y} {result : Result X ReadError} {P : Register → X → Type 0} {Q : Register → Y → Type 0} → ReadsAs old (state_of read) (Ok y) Q → left ≡ read → Answers (state_of read) (state_of left) result P → ReadsAs old (state_of left) result P
read_listed state_of {old} {read} {result = result} was same answer = read_noted state_of same (record {
  reads = was.reads;
  up = known result was.up;
  answer = λ clean r shows. answer (subst (λ k. IsClean (state_of k)) (sym same) clean) r (still_shows r old (state_of read) (was.reads.kept clean) shows);
})

-- what is seen by a viewer is read of what is shown
pub read_seen : {X : Type 0} {old new : State} {view : View} {result : Result X ReadError} (P : Viewing → X → Type 0) → ReadsOnly old new → IfOk result (λ x. StaysUp old new)
    → (IsClean new → (m : Viewing) → (view ≡ m.view) × ShowsIn m.register old → MatchResult result (P m) IsNoDamage) → ReadsAs old new result (λ r x. P (record { view = view; register = r }) x)
read_seen {view = view} P reads up answer = record { reads = reads; up = up; answer = λ clean r shows. answer clean (record { view = view; register = r }) (refl, shows) }

-- so is what is read for a view that is the viewer's on the register's day
pub read_viewed : {X : Type 0} {old mid new : State} {view : View} {viewer : List ℕ} {day : ℤ} {result : Result X ReadError} (P : Shown → X → Type 0) → ReadsAs old mid (Ok view) (λ r v. v ≡ record { viewer = viewer; today = r.day; day = day })
    → ReadsAs mid new result (λ r x. P (seen view r) x) → ReadsAs old new result (λ r x. P (seen_at viewer day r) x)
read_viewed P first second = read_as (read_next first second) (λ r x stored is. subst (λ (v : View). P (seen v r) x) is.0 is.1)

-- and the other way round
pub seen_answer : {X : Type 0} {old new : State} {view : View} {result : Result X ReadError} {P : Register → X → Type 0} (Q : Viewing → X → Type 0) → ReadsAs old new result P
    → ((r : Register) → IsStored r → (x : X) → P r x → Q (record { view = view; register = r }) x) → IsClean new → (m : Viewing) → (view ≡ m.view) × ShowsIn m.register old → MatchResult result (Q m) IsNoDamage
seen_answer {result = result} {P} Q was so clean m shown =
    answered result (P m.register) (Q m) (λ x is. subst (λ (v : View). Q (record { view = v; register = m.register }) x) shown.0 (so m.register shown.1.stored x is)) (was.answer clean m.register shown.1)

-- what was found is what is told of each register that is shown
pub of_found : {found : Option Found} {f : Found} {s t : State} → s ≡ t → found ≡ Some f → IsCurrent s found → Holds t (λ r. AreOf r f)
of_found {found = found} {t = t} same is h = subst (λ o. IsCurrent t o) is (subst (λ u. IsCurrent u found) same h)

-- ---- a map with one more key

is_equal : (o : Ordering) → is_eq o ≡ true → o ≡ Equal
is_equal Equal h = refl
is_equal o h = absurd (cc)

-- what holds of each value holds with one more
pub one_more : {K X : Type 0} (cmp : K → K → Ordering) → CmpEqualImpliesEq cmp → (P : K → X → Type 0) (was now : K → Option X) (key : K) (value : X)
    → ((q : K) → now q ≡ cond (is_eq (cmp key q)) (Some value) (was q)) → P key value → ((q : K) (x : X) → was q ≡ Some x → P q x) → (q : K) (x : X) → now q ≡ Some x → P q x
one_more {K} {X} cmp exact P was now key value puts is before q x h = at (is_eq (cmp key q)) refl (sym (puts q) ∙ h)
  where
    at : (b : Bool) → is_eq (cmp key q) ≡ b → cond b (Some value) (was q) ≡ Some x → P q x
    at true e k = let same : key ≡ q = exact key q (is_equal (cmp key q) e) in rw (← same, ← same_Some value x k) is
    at false e k = before q x k

-- ---- keys of filings and of places

pub exact_filing : CmpEqualImpliesEq filing_cmp
exact_filing a b h =
    ap (λ (p : ℕ × List ℕ). let k : FilingKey = record { number = p.0; agent = p.1 } in k)
    (exact_pairs nat_cmp text_cmp exact_unsigned exact_bytes (a.number, a.agent) (b.number, b.agent) h)

pub exact_place : CmpEqualImpliesEq place_cmp
exact_place a b h =
    ap (λ (p : ℕ × (ℕ × List ℕ)). let k : At = record { filing = p.0; place = p.1.0; agent = p.1.1 } in k)
    (exact_pairs nat_cmp (λ (x y : ℕ × List ℕ). ordering_then (nat_cmp x.0 y.0) (text_cmp x.1 y.1)) exact_unsigned (exact_pairs nat_cmp text_cmp exact_unsigned exact_bytes) (a.filing, (a.place, a.agent)) (b.filing, (b.place, b.agent)) h)
