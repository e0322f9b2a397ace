-- The maps beside the filings, as the register changes.
use Rattle.std.proofs.Common.{◌≡◌, ◌⊎◌, ◌&&◌, ◌++◌, ℕ, Bool, true, false, List, [], ◌∷◌, length, Contains, append-nil, refl, ◌∙◌, sym, ap, subst, inl, inr, arith}
use Rattle.std.specs.Prelude.{if◌then◌else◌, ◌==◌}
use Rattle.std.specs.BTreeMap.{IsEmpty}
use Rattle.std.specs.Ordering.{is_eq}
use Rattle.std.proofs.lemmas.List.Elements.{Contains-append_cases, Contains-append_left, Contains-append_right}
use Rattle.std.proofs.lemmas.Map.Lookups.{CmpEqualImpliesEq, exact_bytes}
use Rattle.std.proofs.lemmas.Map.Views.{tells_apart}
use Rattle.bor_terms.specs.Texts.{is_same}
use Rattle.bor_terms.proofs.Texts.{same_is, is_same-of}
use Rattle.bods_read.specs.declared.statement.Statement.{Statement}
use Rattle.bor_records.specs.declared.links.node.Node.{Node}
use Rattle.bor_records.specs.Links.Nodes.{node_cmp, text_cmp}
use Rattle.bor_records.specs.Links.Orders.{node_ties}
use Rattle.bor_records.specs.Links.Series.{stated}
use Rattle.bor_records.specs.Links.Signs.{sign_cmp}
use Rattle.bor_records.proofs.OnLinks.Exact.{parts}
use Rattle.bor_records.proofs.OnLinks.Found.{none}
use Rattle.bor_records.proofs.OnLinks.Values.{empty_under}
use Rattle.bor_register.specs.declared.filing.AcceptedFiling.{AcceptedFiling}
use Rattle.bor_register.specs.declared.memory.index.Index.{Index}
use Rattle.bor_register.specs.declared.memory.index.Place.{Place}
use Rattle.bor_register.specs.declared.memory.index.StatementKey.{StatementKey}
use Rattle.bor_register.specs.declared.member.Member.{Member}
use Rattle.bor_register.specs.Register.{filings_of, is_enrolled, new_member, with_filings, with_member}
use Rattle.bor_register.specs.Withdrawal.{as_withdrawn, with_withdrawn}
use Rattle.bor_records.specs.Links.Values.{under}
use Rattle.bor_register.specs.Memory.Indexed.{AllNoted, AreNoted, IsGrown, IsIndex, has_key, has_record, key_cmp, key_of, signs_of, statements_in, subjects_of}
use Rattle.bor_register.specs.Memory.Sited.{ArePlacesOf, places_from}
use Rattle.bor_register.proofs.Members.{filings_absent, filings_written, other_filings, with_filings_absent}
use Rattle.bor_register.proofs.OnMemory.Sited.{no_places, places_more, places_none}
use Rattle.bor_register.proofs.OnMemory.Withdrawn.{places_withdrawn}

-- ---- keys that compare alike are one

pub exact_key : CmpEqualImpliesEq key_cmp
exact_key a b h =
    let one = parts (text_cmp a.id b.id) (text_cmp a.agent b.agent) h in
    ap (λ (t : List ℕ). let k : StatementKey = record { id = t; agent = a.agent } in k) (exact_bytes a.id b.id one.0)
    ∙ ap (λ (t : List ℕ). let k : StatementKey = record { id = b.id; agent = t } in k) (exact_bytes a.agent b.agent one.1)

-- an agent's statements are of its own records, and have its own keys
record_apart : (agent : List ℕ) (n : Node) (s : Statement) → is_same agent n.agent ≡ false → is_eq (node_cmp (stated agent s) n) ≡ false
record_apart agent n s e = sym (node_ties (stated agent s) n) ∙ ap (λ (b : Bool). b && (is_same s.declaration n.declaration && is_same s.rec n.rec)) e

key_apart : (agent : List ℕ) (k : StatementKey) (s : Statement) → is_same agent k.agent ≡ false → is_eq (key_cmp (key_of agent s) k) ≡ false
key_apart agent k s e = go (is_eq (key_cmp (key_of agent s) k)) refl
  where
    go : (b : Bool) → is_eq (key_cmp (key_of agent s) k) ≡ b → b ≡ false
    go false h = refl
    go true h =
        let same : agent ≡ k.agent = ap (λ (j : StatementKey). j.agent) (tells_apart exact_key (key_of agent s) k h) in
        sym (is_same-of agent k.agent same) ∙ e

-- ---- what holds of each agent's filings

pub changed : (P : List AcceptedFiling → Type 0) (name agent : List ℕ) (fs : List AcceptedFiling) (ms : List Member) → P (filings_of name ms) → (agent ≡ name → P fs) → P (filings_of name (with_filings agent fs ms))
changed P name agent fs ms was now = go (is_enrolled agent ms) refl (is_same agent name) refl
  where
    go : (a : Bool) → is_enrolled agent ms ≡ a → (b : Bool) → is_same agent name ≡ b → P (filings_of name (with_filings agent fs ms))
    go false e b h = subst (λ (ns : List Member). P (filings_of name ns)) (sym (with_filings_absent agent fs ms e)) was
    go true e true h =
        let same : agent ≡ name = same_is agent name h in
        subst (λ (a : List ℕ). P (filings_of a (with_filings agent fs ms))) same (subst P (sym (filings_written agent fs ms e)) (now same))
    go true e false h = subst P (sym (other_filings agent name fs ms h)) was

live_more : (fs : List AcceptedFiling) (f : AcceptedFiling) (s : Statement) → Contains (statements_in (fs ++ f ∷ [])) s → Contains (statements_in fs) s ⊎ Contains f.statements s
live_more [] f s h = inr (subst (λ (ss : List Statement). Contains ss s) (append-nil f.statements) h)
live_more (g ∷ gs) f s h = elim (Contains-append_cases g.statements (statements_in (gs ++ f ∷ [])) s h) [
  | inl k ↦ inl (Contains-append_left g.statements (statements_in gs) s k)
  | inr k ↦ elim (live_more gs f s k) [ inl q ↦ inl (Contains-append_right g.statements (statements_in gs) s q) | inr q ↦ inr q ]
]

live_withdrawn : (number : ℕ) (fs : List AcceptedFiling) (s : Statement) → Contains (statements_in (with_withdrawn number fs)) s → Contains (statements_in fs) s
live_withdrawn number [] s h = h
live_withdrawn number (f ∷ fs) s h = go (f.number == number) (λ k. live_withdrawn number fs s k) h
  where
    go : (b : Bool) → (Contains (statements_in (with_withdrawn number fs)) s → Contains (statements_in fs) s) → Contains (statements_in (if b then as_withdrawn f ∷ fs else f ∷ with_withdrawn number fs)) s → Contains (statements_in (f ∷ fs)) s
    go true more k = Contains-append_right f.statements (statements_in fs) s k
    go false more k = elim (Contains-append_cases f.statements (statements_in (with_withdrawn number fs)) s k) [
      | inl q ↦ Contains-append_left f.statements (statements_in fs) s q
      | inr q ↦ Contains-append_right f.statements (statements_in fs) s (more q)
    ]

-- ---- a filing more

module _ {K : Type 0} (owner : K → List ℕ) (test : List ℕ → K → Statement → Bool) (apart : (a : List ℕ) (k : K) (s : Statement) → is_same a (owner k) ≡ false → test a k s ≡ false) where
  places_grown : (ms : List Member) (agent : List ℕ) (f : AcceptedFiling) (k : K) (was now : List Place) → is_enrolled agent ms ≡ true → ArePlacesOf (filings_of (owner k) ms) (test (owner k) k) was
      → now ≡ was ++ places_from (test agent k) (length (filings_of agent ms)) 0 f.statements
      → ArePlacesOf (filings_of (owner k) (with_filings agent (filings_of agent ms ++ f ∷ []) ms)) (test (owner k) k) now
  places_grown ms agent f k was now enrolled h e = go (is_same agent (owner k)) refl
    where
      Grows : List ℕ → Type 0
      Grows a = ArePlacesOf (filings_of (owner k) (with_filings a (filings_of a ms ++ f ∷ []) ms)) (test (owner k) k) (was ++ places_from (test a k) (length (filings_of a ms)) 0 f.statements)

      own : is_enrolled (owner k) ms ≡ true → Grows (owner k)
      own on = subst (λ (fs : List AcceptedFiling). ArePlacesOf fs (test (owner k) k) (was ++ places_from (test (owner k) k) (length (filings_of (owner k) ms)) 0 f.statements))
          (sym (filings_written (owner k) (filings_of (owner k) ms ++ f ∷ []) ms on)) (places_more (filings_of (owner k) ms) f (test (owner k) k) was h)

      go : (b : Bool) → is_same agent (owner k) ≡ b → ArePlacesOf (filings_of (owner k) (with_filings agent (filings_of agent ms ++ f ∷ []) ms)) (test (owner k) k) now
      go true q =
          let same : agent ≡ owner k = same_is agent (owner k) q in
          subst (ArePlacesOf (filings_of (owner k) (with_filings agent (filings_of agent ms ++ f ∷ []) ms)) (test (owner k) k)) (sym e)
          (subst Grows (sym same) (own (subst (λ (a : List ℕ). is_enrolled a ms ≡ true) same enrolled)))
      go false q =
          let stays : now ≡ was = e ∙ ap (λ (ps : List Place). was ++ ps) (no_places (test agent k) (length (filings_of agent ms)) 0 f.statements (λ s. apart agent k s q)) ∙ append-nil was in
          subst (ArePlacesOf (filings_of (owner k) (with_filings agent (filings_of agent ms ++ f ∷ []) ms)) (test (owner k) k)) (sym stays)
          (subst (λ (fs : List AcceptedFiling). ArePlacesOf fs (test (owner k) k) was) (sym (other_filings agent (owner k) (filings_of agent ms ++ f ∷ []) ms q)) h)

noted_grown : {K : Type 0} (keys : List ℕ → Statement → List K) (ms : List Member) (agent : List ℕ) (f : AcceptedFiling) (was now : K → List Node) → AllNoted keys ms was → AreNoted keys agent f.statements was now
    → AllNoted keys (with_filings agent (filings_of agent ms ++ f ∷ []) ms) now
noted_grown {K} keys ms agent f was now h g name s k live has =
    changed (λ fs. Contains (statements_in fs) s → Contains (now k) (stated name s)) name agent (filings_of agent ms ++ f ∷ []) ms (λ l. g.stays k (stated name s) (h name s k l has)) of_agent live
  where
    of_agent : agent ≡ name → Contains (statements_in (filings_of agent ms ++ f ∷ [])) s → Contains (now k) (stated name s)
    of_agent same l = elim (live_more (filings_of agent ms) f s l) [
      | inl old ↦ g.stays k (stated name s) (h name s k (subst (λ (a : List ℕ). Contains (statements_in (filings_of a ms)) s) same old) has)
      | inr new ↦ subst (λ (a : List ℕ). Contains (now k) (stated a s)) same (g.there s k new (subst (λ (a : List ℕ). Contains (keys a s) k) (sym same) has))
    ]

pub index_more : (ms : List Member) (agent : List ℕ) (f : AcceptedFiling) (old new : Index) → is_enrolled agent ms ≡ true → IsIndex ms old → IsGrown agent (length (filings_of agent ms)) 0 f.statements old new
    → IsIndex (with_filings agent (filings_of agent ms ++ f ∷ []) ms) new
index_more ms agent f old new enrolled h g = record {
  series = λ n. places_grown (λ (m : Node). m.agent) (λ a m s. is_eq (node_cmp (stated a s) m)) record_apart ms agent f n (under node_cmp old.series n) (under node_cmp new.series n) enrolled (h.series n) (g.series n);
  named = λ k. places_grown (λ (j : StatementKey). j.agent) (λ a j s. is_eq (key_cmp (key_of a s) j)) key_apart ms agent f k (under key_cmp old.named k) (under key_cmp new.named k) enrolled (h.named k) (g.named k);
  naming = noted_grown subjects_of ms agent f (under node_cmp old.naming) (under node_cmp new.naming) h.naming g.naming;
  signed = noted_grown signs_of ms agent f (under sign_cmp old.signed) (under sign_cmp new.signed) h.signed g.signed;
}

-- ---- a filing withdrawn

module _ (ms : List Member) (agent : List ℕ) (number : ℕ) where
  places_left : (name : List ℕ) (test : Statement → Bool) (ps : List Place) → ArePlacesOf (filings_of name ms) test ps → ArePlacesOf (filings_of name (with_filings agent (with_withdrawn number (filings_of agent ms)) ms)) test ps
  places_left name test ps h = changed (λ fs. ArePlacesOf fs test ps) name agent (with_withdrawn number (filings_of agent ms)) ms h
      (λ same. places_withdrawn number (filings_of agent ms) test ps (subst (λ (a : List ℕ). ArePlacesOf (filings_of a ms) test ps) (sym same) h))

  noted_left : {K : Type 0} (keys : List ℕ → Statement → List K) (was : K → List Node) → AllNoted keys ms was → AllNoted keys (with_filings agent (with_withdrawn number (filings_of agent ms)) ms) was
  noted_left keys was h name s k live has =
      changed (λ fs. Contains (statements_in fs) s → Contains (was k) (stated name s)) name agent (with_withdrawn number (filings_of agent ms)) ms (λ l. h name s k l has)
      (λ same l. h name s k (subst (λ (a : List ℕ). Contains (statements_in (filings_of a ms)) s) same (live_withdrawn number (filings_of agent ms) s l)) has) live

  pub index_withdrawn : (x : Index) → IsIndex ms x → IsIndex (with_filings agent (with_withdrawn number (filings_of agent ms)) ms) x
  index_withdrawn x h = record {
    series = λ n. places_left n.agent (has_record n) (under node_cmp x.series n) (h.series n);
    named = λ k. places_left k.agent (has_key k) (under key_cmp x.named k) (h.named k);
    naming = noted_left subjects_of (under node_cmp x.naming) h.naming;
    signed = noted_left signs_of (under sign_cmp x.signed) h.signed;
  }

-- ---- an agent more

member_more : (name agent token : List ℕ) (ms : List Member) → is_enrolled agent ms ≡ false → filings_of name (with_member (new_member agent token) ms) ≡ filings_of name ms
member_more name agent token [] h = go (is_same agent name)
  where
    go : (b : Bool) → (if b then (new_member agent token).filings else filings_of name []) ≡ filings_of name []
    go true = refl
    go false = refl
member_more name agent token (m ∷ ms) h = grind (arith, member_more name agent token ms, filings_absent agent (m ∷ ms), same_is agent name)

pub index_same : (ms ns : List Member) (x : Index) → ((name : List ℕ) → filings_of name ns ≡ filings_of name ms) → IsIndex ms x → IsIndex ns x
index_same ms ns x same h = record {
  series = λ n. subst (λ (fs : List AcceptedFiling). ArePlacesOf fs (has_record n) (under node_cmp x.series n)) (sym (same n.agent)) (h.series n);
  named = λ k. subst (λ (fs : List AcceptedFiling). ArePlacesOf fs (has_key k) (under key_cmp x.named k)) (sym (same k.agent)) (h.named k);
  naming = λ agent s k live has. h.naming agent s k (subst (λ (fs : List AcceptedFiling). Contains (statements_in fs) s) (same agent) live) has;
  signed = λ agent s k live has. h.signed agent s k (subst (λ (fs : List AcceptedFiling). Contains (statements_in fs) s) (same agent) live) has;
}

pub index_enrolled : (ms : List Member) (agent token : List ℕ) (x : Index) → is_enrolled agent ms ≡ false → IsIndex ms x → IsIndex (with_member (new_member agent token) ms) x
index_enrolled ms agent token x fresh h = index_same ms (with_member (new_member agent token) ms) x (λ name. member_more name agent token ms fresh) h

-- ---- no agents

pub index_none : (x : Index) → IsEmpty x.series → IsEmpty x.named → IsIndex [] x
index_none x series named = record {
  series = λ n. places_none (has_record n) (under node_cmp x.series n) (empty_under node_cmp x.series n series);
  named = λ k. places_none (has_key k) (under key_cmp x.named k) (empty_under key_cmp x.named k named);
  naming = λ agent s k live has. absurd (none s live);
  signed = λ agent s k live has. absurd (none s live);
}
