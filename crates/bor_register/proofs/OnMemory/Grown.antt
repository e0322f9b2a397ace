-- The maps beside the filings, as a filing's statements are added one after the other.
use Rattle.std.proofs.Common.{◌≡◌, ◌+◌, ◌++◌, ℕ, Bool, true, false, cond, List, [], ◌∷◌, Contains, length, refl, append-nil, append_assoc, sym, ap, ap₂, ◌∙◌, subst, inl, inr, arith}
use Rattle.std.specs.Prelude.{if◌then◌else◌}
use Rattle.std.specs.Ordering.{is_eq}
use Rattle.std.specs.declared.cmp.Ordering.{Ordering}
use Rattle.std.proofs.lemmas.List.Elements.{Contains-append_cases, Contains-push_cases}
use Rattle.std.proofs.lemmas.Map.Lookups.{CmpEqualImpliesEq}
use Rattle.std.proofs.lemmas.Map.Views.{tells_apart}
use Rattle.bods_read.specs.declared.statement.Statement.{Statement}
use Rattle.bor_records.specs.declared.links.node.Node.{Node}
use Rattle.bor_records.specs.Links.Nodes.{node_cmp}
use Rattle.bor_records.specs.Links.Series.{stated}
use Rattle.bor_records.specs.Links.Signs.{sign_cmp}
use Rattle.bor_records.specs.Links.Values.{IsNoted, under}
use Rattle.bor_records.proofs.OnLinks.Found.{none}
use Rattle.bor_register.specs.declared.memory.index.Index.{Index}
use Rattle.bor_register.specs.declared.memory.index.Place.{Place}
use Rattle.bor_register.specs.declared.memory.index.StatementKey.{StatementKey}
use Rattle.bor_register.specs.Memory.Indexed.{AreNoted, IsGrown, key_cmp, key_of, signs_of, subjects_of}
use Rattle.bor_register.specs.Memory.Sited.{places_from}

-- ---- one statement

-- a place is put under a key
pub place_put : {K : Type 0} (cmp : K → K → Ordering) (exact : CmpEqualImpliesEq cmp) (key of k : K) (p : Place) (was now : K → List Place) → key ≡ of → now k ≡ cond (is_eq (cmp key k)) (was key ++ p ∷ []) (was k)
    → now k ≡ was k ++ (if is_eq (cmp of k) then p ∷ [] else [])
place_put {K} cmp exact key of k p was now is put = put ∙ go (is_eq (cmp key k)) refl ∙ ap (λ (z : K). was k ++ (if is_eq (cmp z k) then p ∷ [] else [])) is
  where
    go : (b : Bool) → is_eq (cmp key k) ≡ b → cond b (was key ++ p ∷ []) (was k) ≡ was k ++ (if b then p ∷ [] else [])
    go true e = ap (λ (z : K). was z ++ p ∷ []) (tells_apart exact key k e)
    go false e = sym (append-nil (was k))

-- a record is put under the keys of its statement
pub noted_one : {K : Type 0} (keys : List ℕ → Statement → List K) (agent : List ℕ) (s : Statement) (ks : List K) (n : Node) (a b : K → List Node) → ks ≡ keys agent s → n ≡ stated agent s → IsNoted ks n a b → AreNoted keys agent (s ∷ []) a b
noted_one {K} keys agent s ks n a b keyed is noted = record {
  stays = noted.stays;
  there = λ t k h has. elim (Contains-push_cases [] s t h) [
    | inl never ↦ absurd (none t never)
    | inr e ↦
        subst (λ (z : Statement). Contains (b k) (stated agent z)) e
        (subst (λ (m : Node). Contains (b k) m) is (noted.there k (subst (λ (js : List K). Contains js k) (sym keyed) (subst (λ (z : Statement). Contains (keys agent z) k) (sym e) has))))
  ];
}

-- ---- more statements

places_append : (test : Statement → Bool) (filing i : ℕ) (ss ts : List Statement) → places_from test filing i (ss ++ ts) ≡ places_from test filing i ss ++ places_from test filing (i + length ss) ts
places_append test filing i [] ts = ap (λ (n : ℕ). places_from test filing n ts) (let same : i ≡ i + 0 = omega arith in same)
places_append test filing i (s ∷ ss) ts =
    go (test s) (places_from test filing (i + 1) (ss ++ ts)) (places_append test filing (i + 1) ss ts ∙ ap (λ (n : ℕ). places_from test filing (i + 1) ss ++ places_from test filing n ts) (let same : i + 1 + length ss ≡ i + length (s ∷ ss) = omega arith in same))
  where
    p : Place
    p = record { filing = filing; statement = i }

    these : List Place
    these = places_from test filing (i + 1) ss

    those : List Place
    those = places_from test filing (i + length (s ∷ ss)) ts

    go : (b : Bool) (all : List Place) → all ≡ these ++ those → (if b then p ∷ all else all) ≡ (if b then p ∷ these else these) ++ those
    go true all h = ap (λ (ps : List Place). p ∷ ps) h
    go false all h = h

places_then : {K : Type 0} (test : K → Statement → Bool) (filing start next : ℕ) (ss ts : List Statement) (a b c : K → List Place) → next ≡ start + length ss
    → ((k : K) → b k ≡ a k ++ places_from (test k) filing start ss) → ((k : K) → c k ≡ b k ++ places_from (test k) filing next ts) → (k : K) → c k ≡ a k ++ places_from (test k) filing start (ss ++ ts)
places_then test filing start next ss ts a b c is first more k =
    more k ∙ ap₂ (λ (ps : List Place) (n : ℕ). ps ++ places_from (test k) filing n ts) (first k) is
    ∙ append_assoc (a k) (places_from (test k) filing start ss) (places_from (test k) filing (start + length ss) ts) ∙ ap (λ (ps : List Place). a k ++ ps) (sym (places_append (test k) filing start ss ts))

noted_none : {K : Type 0} (keys : List ℕ → Statement → List K) (agent : List ℕ) (was : K → List Node) → AreNoted keys agent [] was was
noted_none keys agent was = record {
  stays = λ k m h. h;
  there = λ s k h. absurd (none s h);
}

noted_then : {K : Type 0} (keys : List ℕ → Statement → List K) (agent : List ℕ) (ss ts : List Statement) (a b c : K → List Node) → AreNoted keys agent ss a b → AreNoted keys agent ts b c → AreNoted keys agent (ss ++ ts) a c
noted_then keys agent ss ts a b c first more = record {
  stays = λ k m h. more.stays k m (first.stays k m h);
  there = λ s k h has. elim (Contains-append_cases ss ts s h) [
    | inl old ↦ more.stays k (stated agent s) (first.there s k old has)
    | inr new ↦ more.there s k new has
  ];
}

pub grown_none : (agent : List ℕ) (filing start : ℕ) (x : Index) → IsGrown agent filing start [] x x
grown_none agent filing start x = record {
  series = λ n. sym (append-nil (under node_cmp x.series n));
  named = λ k. sym (append-nil (under key_cmp x.named k));
  naming = noted_none subjects_of agent (under node_cmp x.naming);
  signed = noted_none signs_of agent (under sign_cmp x.signed);
}

pub grown_then : (agent : List ℕ) (filing start next : ℕ) (ss ts : List Statement) (a b c : Index) → next ≡ start + length ss → IsGrown agent filing start ss a b → IsGrown agent filing next ts b c → IsGrown agent filing start (ss ++ ts) a c
grown_then agent filing start next ss ts a b c is first more = record {
  series = places_then (λ (n : Node) s. is_eq (node_cmp (stated agent s) n)) filing start next ss ts (under node_cmp a.series) (under node_cmp b.series) (under node_cmp c.series) is first.series more.series;
  named = places_then (λ (k : StatementKey) s. is_eq (key_cmp (key_of agent s) k)) filing start next ss ts (under key_cmp a.named) (under key_cmp b.named) (under key_cmp c.named) is first.named more.named;
  naming = noted_then subjects_of agent ss ts (under node_cmp a.naming) (under node_cmp b.naming) (under node_cmp c.naming) first.naming more.naming;
  signed = noted_then signs_of agent ss ts (under sign_cmp a.signed) (under sign_cmp b.signed) (under sign_cmp c.signed) first.signed more.signed;
}
