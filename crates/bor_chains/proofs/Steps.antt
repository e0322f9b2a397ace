-- Steps that lead down: what is read off by them, how many they are, which places are needed, and that the persons and links of a whole walk are the tree of evidence.
use Rattle.std.proofs.Common.{◌≡◌, ◌+◌, ◌<◌, ◌≤◌, ◌++◌, ℕ, Bool, cond, Option, Some, None, List, [], ◌∷◌, length, sym, refl, ap, ◌∙◌, subst, inl, inr, arith, length-append, ◌⊎◌, true, false, Contains, get_or, append_assoc}
use Rattle.std.specs.List.{slice_get, dedup}
use Rattle.std.proofs.lemmas.Bool.{lt-ltb, cases_eq}
use Rattle.std.proofs.lemmas.Option.{same_Some, slice_get_within, slice_get-get_or, get_or_from_slice_get}
use Rattle.std.proofs.lemmas.Bool.Decides.{nat_tests}
use Rattle.std.proofs.Math.ListN.{set, length-set}
use Rattle.std.proofs.lemmas.List.Elements.{Contains-append_left, Contains-append_cases, Contains-append_right}
use Rattle.std.proofs.iter.runs.Lists.{nth_left, nth_seam}
use Rattle.std.specs.Prelude.{◌↔◌}
use Rattle.std.specs.List.Retain.{IsFiltered, DiffersFromLast}
use Rattle.std.specs.List.Sorted.{IsPermutation, IsSorted}
use Rattle.std.specs.declared.cmp.Ordering.{Ordering}
use Rattle.std.specs.declared.cmp.Ordering.TheVariants.{Equal}
use Rattle.std.proofs.lemmas.List.Filters.{dedup_is}
use Rattle.std.proofs.lemmas.List.Kept.{IsStrictlySortedBy-dedup, Any-dedup, Contains-from_dedup}
use Rattle.std.proofs.lemmas.List.Sorted.{Contains-permutation, IsPermutation-sym}
use Rattle.bor_records.specs.declared.links.node.Link.{Link}
use Rattle.bor_records.proofs.OnLinks.Found.{one_of, none, here}
use Rattle.bor_records.specs.declared.links.node.NodeInfo.{NodeInfo}
use Rattle.bor_records.specs.declared.links.node.NodeInfo.TheVariants as infos
use Rattle.bor_records.specs.declared.links.node.PersonInfo.{PersonInfo}
use Rattle.bor_records.specs.Links.Shown.{is_entity, Shown, IsPerson, info_of}
use Rattle.bor_records.specs.declared.links.node.Node.{Node}
use Rattle.bor_records.specs.Links.Nodes.{link_record, link_cmp}
use Rattle.bor_records.proofs.OnLinks.Exact.{parts, exact_link}
use Rattle.bor_records.proofs.OnLinks.SameNode.{same_node_is}
use Rattle.bor_chains.specs.declared.trail.Step.{Step}
use Rattle.bor_chains.specs.Trail.{ReadsOff, DownAs, IsLeastDown, TellsAs, IsAll}
use Rattle.bor_chains.specs.Branches.{lower_step, step_down, LeadsDown, IsCount, AreCounts, IsNeeded, AreNeeded, step_link, persons_by, persons_at, links_at, IsPersonAt, IsLinkAt, ArePersonsFrom, AreLinksFrom}
use Rattle.bor_chains.proofs.Places.{got_cases, got_is, from_on, set_there, set_other, got_left, got, got_there}
use Rattle.bor_chains.specs.declared.tree.EvidenceLink.{EvidenceLink}
use Rattle.bor_chains.specs.declared.tree.EvidencePerson.{EvidencePerson}
use Rattle.bor_chains.specs.declared.marks.Mark.{Mark}
use Rattle.bor_chains.specs.declared.marks.Mark.TheVariants.{Target, Middle, Holder}
use Rattle.bor_chains.specs.declared.marks.Marked.{Marked}
use Rattle.bor_chains.specs.declared.trail.Trail.{Trail}
use Rattle.bor_chains.specs.Lines.{reading_cmp, same_evidence, evidence_cmp, evidence_equiv, evidence_total, evidence_ties, same_in_tree, tree_cmp, tree_equiv, tree_total}
use Rattle.bor_chains.specs.Chains.{IsJoinedBy}
use Rattle.bor_chains.specs.Evidence.{IsEvidence, IsLinkOf, IsNamedBy, IsOfEvidence, AreReadOff, AreEvidenced}
use Rattle.bor_chains.proofs.OneAnswer.{one_info}
use Rattle.bor_chains.proofs.OneEvidence.{evidence_is_one, read_off, first_of, evidence_link_is, one_way_on}

-- ---- one step

pub down_is : (steps : List (Option Step)) (i : ℕ) (step : Step) → step_down steps i ≡ Some step → (slice_get steps i ≡ Some (Some step)) × (step.below < i)
down_is steps i step h = grind (arith, nat_tests)

pub is_down : (steps : List (Option Step)) (i : ℕ) (step : Step) → slice_get steps i ≡ Some (Some step) → step.below < i → step_down steps i ≡ Some step
is_down steps i step h lt = ap (λ (o : Option (Option Step)). lower_step i o) h ∙ ap (λ (b : Bool). cond b (Some step) None) (lt-ltb step.below i lt)

pub down_within : (steps : List (Option Step)) (i : ℕ) (step : Step) → step_down steps i ≡ Some step → i < length steps
down_within steps i step h = slice_get_within steps i (Some step) (down_is steps i step h).0

-- two at one place are one
pub one_step : (steps : List (Option Step)) (i : ℕ) (a b : Step) → slice_get steps i ≡ Some (Some a) → slice_get steps i ≡ Some (Some b) → a ≡ b
one_step steps i a b h k = same_Some a b (same_Some (Some a) (Some b) (sym h ∙ k))

no_step : (steps : List (Option Step)) (i : ℕ) (a : Step) → slice_get steps i ≡ Some None → slice_get steps i ≡ Some (Some a) → ⊥
no_step steps i a h k = let no : None ≡ Some a = same_Some None (Some a) (sym h ∙ k) in cc

-- ---- what is read off

pub one_reading : (steps : List (Option Step)) (i : ℕ) (ls ks : List Link) → ReadsOff steps i ls → ReadsOff steps i ks → ls ≡ ks
one_reading steps i [] [] h j = refl
one_reading steps i [] (k ∷ ks) h j = absurd (no_step steps i j.0 h j.1)
one_reading steps i (l ∷ ls) [] h j = absurd (no_step steps i h.0 j h.1)
one_reading steps i (l ∷ ls) (k ∷ ks) h j =
    let same = one_step steps i h.0 j.0 h.1 j.1 in
    let link : l ≡ k = sym h.3 ∙ ap (λ (x : Step). x.link) same ∙ j.3 in
    let rest = one_reading steps (h.0).below ls ks h.4 (subst (λ (x : Step). ReadsOff steps x.below ks) (sym same) j.4) in
    ap (λ (x : Link). x ∷ ls) link ∙ ap (λ (xs : List Link). k ∷ xs) rest

-- a step before a reading
pub reads_more : (steps : List (Option Step)) (i : ℕ) (ls : List Link) (j : ℕ) (ks : List Link) → LeadsDown steps i ls j → ReadsOff steps j ks → ReadsOff steps i (ls ++ ks)
reads_more steps i [] j ks h r = subst (λ (n : ℕ). ReadsOff steps n ks) (sym h) r
reads_more steps i (l ∷ ls) j ks h r = let d = down_is steps i h.0 h.1 in (h.0, d.0, d.1, h.2, reads_more steps (h.0).below ls j ks h.3 r)

-- ---- from one place to another

pub leads_more : (steps : List (Option Step)) (i : ℕ) (ls : List Link) (j : ℕ) (step : Step) → LeadsDown steps i ls j → step_down steps j ≡ Some step → LeadsDown steps i (ls ++ step.link ∷ []) step.below
leads_more steps i [] j step h d = (step, ap (λ (n : ℕ). step_down steps n) h ∙ d, refl, refl)
leads_more steps i (l ∷ ls) j step h d = (h.0, h.1, h.2, leads_more steps (h.0).below ls j step h.3 d)

-- the last of the steps
pub record IsLastStep (steps : List (Option Step)) (i j : ℕ) : Type 0 where
  pub links : List Link
  pub place : ℕ
  pub step : Step
  pub leads : LeadsDown steps i links place
  pub is : step_down steps place ≡ Some step
  pub below : step.below ≡ j

pub leads_last : (steps : List (Option Step)) (i : ℕ) (l : Link) (ls : List Link) (j : ℕ) → LeadsDown steps i (l ∷ ls) j → IsLastStep steps i j
leads_last steps i l [] j h = record { links = []; place = i; step = h.0; leads = refl; is = h.1; below = h.3 }
leads_last steps i l (k ∷ ks) j h = let r = leads_last steps (h.0).below k ks j h.3 in record { links = l ∷ r.links; place = r.place; step = r.step; leads = (h.0, h.1, h.2, r.leads); is = r.is; below = r.below }

-- no place leads up
pub leads_lower : (steps : List (Option Step)) (i : ℕ) (ls : List Link) (j : ℕ) → LeadsDown steps i ls j → j ≤ i
leads_lower steps i [] j h = omega arith
leads_lower steps i (l ∷ ls) j h = let d = (down_is steps i h.0 h.1).1 in let le = leads_lower steps (h.0).below ls j h.3 in omega arith

-- ---- how many they are

pub counts_none : (steps : List (Option Step)) (counts : List ℕ) → counts ≡ [] → AreCounts steps 0 counts
counts_none steps counts e = record { long = ap (λ (xs : List ℕ). length xs) e; each = λ i count h. absurd (let no : None ≡ Some count = sym (ap (λ (xs : List ℕ). slice_get xs i) e) ∙ h in cc) }

pub counts_more : (steps : List (Option Step)) (n count : ℕ) (counts more : List ℕ) → more ≡ counts ++ count ∷ [] → AreCounts steps n counts → (count ≤ n) × IsCount steps n count → AreCounts steps (n + 1) more
counts_more steps n count counts more pushed c one = subst (λ (xs : List ℕ). AreCounts steps (n + 1) xs) (sym pushed) (record {
  long = (let long = c.long in omega (arith, length-append counts (count ∷ [])));
  each = λ i k h. elim (got_cases counts (count ∷ []) i k h) [
    | inl was ↦ c.each i k was
    | inr new ↦ at i k h new.0 (one_of count k new.1)
  ];
})
  where
    at : (i k : ℕ) → slice_get (counts ++ count ∷ []) i ≡ Some k → length counts ≤ i → count ≡ k → (k ≤ i) × IsCount steps i k
    at i k h le same =
        let lt = slice_get_within (counts ++ count ∷ []) i k h in
        let long = c.long in
        let here : n ≡ i = omega (arith, length-append counts (count ∷ [])) in
        subst (λ (j : ℕ). (k ≤ j) × IsCount steps j k) here (subst (λ (x : ℕ). (x ≤ n) × IsCount steps n x) same one)

-- a step to a place that is counted
pub count_step : (steps : List (Option Step)) (n : ℕ) (step : Step) (count : ℕ) (counts : List ℕ) → step_down steps n ≡ Some step → slice_get counts step.below ≡ Some count → AreCounts steps n counts
    → (count + 1 ≤ n) × IsCount steps n (count + 1)
count_step steps n step count counts d at c = (few, by)
  where
    few : count + 1 ≤ n
    few = let lt = (down_is steps n step d).1 in let le = (c.each step.below count at).0 in omega arith

    by : (ls : List Link) → ReadsOff steps n ls → length ls ≡ count + 1
    by [] r = absurd (no_step steps n step r (down_is steps n step d).0)
    by (l ∷ ls) r =
        let same = one_step steps n r.0 step r.1 (down_is steps n step d).0 in
        let rest = (c.each step.below count at).1 ls (subst (λ (x : Step). ReadsOff steps x.below ls) same r.4) in
        omega arith

pub count_end : (steps : List (Option Step)) (n : ℕ) → step_down steps n ≡ None → (0 ≤ n) × IsCount steps n 0
count_end steps n d = (omega arith, by)
  where
    by : (ls : List Link) → ReadsOff steps n ls → length ls ≡ 0
    by [] r = refl
    by (l ∷ ls) r = let no : None ≡ Some r.0 = sym d ∙ is_down steps n r.0 r.1 r.2 in absurd cc

-- ---- one place

pub needed_person : (steps : List (Option Step)) (i : ℕ) (step : Step) (info : PersonInfo) → step_down steps i ≡ Some step → step.info ≡ infos.Person info → IsNeeded steps i
needed_person steps i step info d tells = record { place = i; step = step; info = info; is = d; person = tells; links = []; leads = refl }

pub needed_below : (steps : List (Option Step)) (i : ℕ) (step : Step) → IsNeeded steps i → step_down steps i ≡ Some step → IsNeeded steps step.below
needed_below steps i step n d = record {
  place = n.place;
  step = n.step;
  info = n.info;
  is = n.is;
  person = n.person;
  links = n.links ++ step.link ∷ [];
  leads = leads_more steps n.place n.links i step n.leads d;
}

-- a person's step
record IsPersonStep (steps : List (Option Step)) (i : ℕ) : Type 0 where
  step : Step
  info : PersonInfo
  is : step_down steps i ≡ Some step
  person : step.info ≡ infos.Person info

-- a place is needed as that of a person, or it was found below one
known : (steps : List (Option Step)) (n : ℕ) (v : List Bool) → AreNeeded steps (n + 1) v → IsNeeded steps n → IsPersonStep steps n ⊎ (slice_get v n ≡ Some true)
known steps n v a h = by h.links h.leads
  where
    by : (ls : List Link) → LeadsDown steps h.place ls n → IsPersonStep steps n ⊎ (slice_get v n ≡ Some true)
    by [] same = inl (record { step = h.step; info = h.info; is = ap (λ (j : ℕ). step_down steps j) (sym same) ∙ h.is; person = h.person })
    by (l ∷ ls) leads =
        let r = leads_last steps h.place l ls n leads in
        let lt = (down_is steps r.place r.step r.is).1 in
        let below = r.below in
        let above : IsNeeded steps r.place = record { place = h.place; step = h.step; info = h.info; is = h.is; person = h.person; links = r.links; leads = r.leads } in
        inr (subst (λ (i : ℕ). slice_get v i ≡ Some true) below (a.below r.place r.step (omega arith) above r.is))

-- ---- places in turn

pub needed_none : (steps : List (Option Step)) (v : List Bool) → length v ≡ length steps → ((x : Bool) → Contains v x → x ≡ false) → AreNeeded steps (length steps) v
needed_none steps v long all = record {
  long = long;
  only = λ i h. absurd (let no : true ≡ false = all true (got_is v i true h) in cc);
  every = λ i le n. absurd (let lt = down_within steps n.place n.step n.is in let low = leads_lower steps n.place n.links i n.leads in omega arith);
  below = λ i step le n d. absurd (let lt = down_within steps i step d in omega arith);
}

-- one place more
needed_more : (steps : List (Option Step)) (n : ℕ) (v w : List Bool) → length w ≡ length v → ((i : ℕ) → slice_get v i ≡ Some true → slice_get w i ≡ Some true) → ((i : ℕ) → slice_get w i ≡ Some true → (slice_get v i ≡ Some true) ⊎ IsNeeded steps i)
    → (IsNeeded steps n → slice_get w n ≡ Some true) → ((step : Step) → IsNeeded steps n → step_down steps n ≡ Some step → slice_get w step.below ≡ Some true) → AreNeeded steps (n + 1) v → AreNeeded steps n w
needed_more steps n v w long grows only here below a = record {
  long = long ∙ a.long;
  only = λ i h. elim (only i h) [ inl was ↦ a.only i was | inr new ↦ new ];
  every = λ i le h. elim (from_on n i le) [
    | inl past ↦ grows i (a.every i past h)
    | inr now ↦ subst (λ (j : ℕ). slice_get w j ≡ Some true) (sym now) (here (subst (λ (j : ℕ). IsNeeded steps j) now h))
  ];
  below = λ i step le h d. elim (from_on n i le) [
    | inl past ↦ grows step.below (a.below i step past h d)
    | inr now ↦ below step (subst (λ (j : ℕ). IsNeeded steps j) now h) (subst (λ (j : ℕ). step_down steps j ≡ Some step) now d)
  ];
}

-- without a step
pub needed_end : (steps : List (Option Step)) (n : ℕ) (v : List Bool) → step_down steps n ≡ None → AreNeeded steps (n + 1) v → AreNeeded steps n v
needed_end steps n v gone a = needed_more steps n v v refl (λ i h. h) (λ i h. inl h)
    (λ h. elim (known steps n v a h) [ inl p ↦ absurd (let no : None ≡ Some p.step = sym gone ∙ p.is in cc) | inr q ↦ q ])
    (λ step h d. absurd (let no : None ≡ Some step = sym gone ∙ d in cc))
    a

-- no person's, and not found below one
pub needed_not : (steps : List (Option Step)) (n : ℕ) (step : Step) (v : List Bool) → step_down steps n ≡ Some step → is_entity step.info ≡ true → slice_get v n ≡ Some false → AreNeeded steps (n + 1) v → AreNeeded steps n v
needed_not steps n step v d entity miss a = needed_more steps n v v refl (λ i h. h) (λ i h. inl h) (λ h. absurd (never h)) (λ x h e. absurd (never h)) a
  where
    never : IsNeeded steps n → ⊥
    never h = elim (known steps n v a h) [
      | inl p ↦ (
          let same = same_Some p.step step (sym p.is ∙ d) in
          let no : false ≡ true = ap (λ (i : NodeInfo). is_entity i) (sym p.person) ∙ ap (λ (x : Step). is_entity x.info) same ∙ entity in cc)
      | inr q ↦ (let no : false ≡ true = same_Some false true (sym miss ∙ q) in cc)
    ]

-- ---- yes at a place

set_grows : (v : List Bool) (i j : ℕ) → slice_get v j ≡ Some true → slice_get (set v i true) j ≡ Some true
set_grows v i j h = elim (cases_eq j i) [
  | inl same ↦ ap (λ (k : ℕ). slice_get (set v i true) k) same ∙ set_there v i true (let lt = slice_get_within v j true h in omega (arith, lt, same))
  | inr other ↦ set_other v i j true other ∙ h
]

set_only : (v : List Bool) (i j : ℕ) → slice_get (set v i true) j ≡ Some true → (slice_get v j ≡ Some true) ⊎ (j ≡ i)
set_only v i j h = elim (cases_eq j i) [ inl same ↦ inr same | inr other ↦ inl (sym (set_other v i j true other) ∙ h) ]

-- a person's, or found below one
pub needed_yes : (steps : List (Option Step)) (n : ℕ) (step : Step) (v : List Bool) → step_down steps n ≡ Some step → (is_entity step.info ≡ false) ⊎ (slice_get v n ≡ Some true) → AreNeeded steps (n + 1) v → AreNeeded steps n (set (set v n true) step.below true)
needed_yes steps n step v d by a = needed_more steps n v w (length-set (set v n true) step.below true ∙ length-set v n true) grows only (λ h. set_grows (set v n true) step.below n (set_there v n true within)) below a
  where
    w : List Bool
    w = set (set v n true) step.below true

    within : n < length v
    within = let lt = down_within steps n step d in let long = a.long in omega arith

    person : (i : NodeInfo) → step.info ≡ i → is_entity i ≡ false → IsNeeded steps n
    person (infos.Entity legal) e h = let no : true ≡ false = h in absurd cc
    person (infos.Person info) e h = needed_person steps n step info d e

    needed : IsNeeded steps n
    needed = elim by [ inl p ↦ person step.info refl p | inr q ↦ a.only n q ]

    grows : (i : ℕ) → slice_get v i ≡ Some true → slice_get w i ≡ Some true
    grows i h = set_grows (set v n true) step.below i (set_grows v n i h)

    only : (i : ℕ) → slice_get w i ≡ Some true → (slice_get v i ≡ Some true) ⊎ IsNeeded steps i
    only i h = elim (set_only (set v n true) step.below i h) [
      | inl p ↦ elim (set_only v n i p) [ inl was ↦ inl was | inr now ↦ inr (subst (λ (j : ℕ). IsNeeded steps j) (sym now) needed) ]
      | inr q ↦ inr (subst (λ (j : ℕ). IsNeeded steps j) (sym q) (needed_below steps n step needed d))
    ]

    below : (x : Step) → IsNeeded steps n → step_down steps n ≡ Some x → slice_get w x.below ≡ Some true
    below x h e =
        let same = same_Some step x (sym d ∙ e) in
        let low = (down_is steps n step d).1 in
        subst (λ (y : Step). slice_get w y.below ≡ Some true) same (set_there (set v n true) step.below true (omega (arith, within, length-set v n true)))

-- ---- the last of some steps

-- a step is taken from the end of those that are left
pub record IsTaken (steps left fewer : List (Option Step)) (o : Option Step) (n : ℕ) : Type 0 where
  pub rest : List (Option Step)
  pub begins : steps ≡ fewer ++ rest
  pub is : slice_get steps n ≡ Some o
  pub before : (i : ℕ) → i < n → slice_get fewer i ≡ slice_get steps i
  pub long : length left ≡ n + 1
  pub there : n ≡ length fewer

pub taken : (steps left fewer rest : List (Option Step)) (o : Option Step) (n : ℕ) → steps ≡ left ++ rest → left ≡ fewer ++ o ∷ [] → n ≡ length fewer → IsTaken steps left fewer o n
taken steps left fewer rest o n begins last there = record {
  rest = o ∷ rest;
  begins = whole;
  is = ap (λ (xs : List (Option Step)). slice_get xs n) begins ∙ got_left left rest n o (ap (λ (xs : List (Option Step)). slice_get xs n) last ∙ ap (λ (i : ℕ). slice_get (fewer ++ o ∷ []) i) there ∙ nth_seam fewer o);
  before = λ i lt. sym (ap (λ (xs : List (Option Step)). slice_get xs i) whole ∙ nth_left fewer (o ∷ rest) i (omega arith));
  long = (let e = ap (λ (xs : List (Option Step)). length xs) last in omega (arith, length-append fewer (o ∷ [])));
  there = there;
}
  where
    whole : steps ≡ fewer ++ o ∷ rest
    whole = begins ∙ ap (λ (xs : List (Option Step)). xs ++ rest) last ∙ append_assoc fewer (o ∷ []) rest

-- ---- from the end on

pub persons_from_end : (steps : List (Option Step)) (persons : List EvidencePerson) → persons ≡ [] → ArePersonsFrom steps (length steps) persons
persons_from_end steps persons e = record {
  each = λ p h. absurd (none p (subst (λ (ps : List EvidencePerson). Contains ps p) e h));
  every = λ i step info le n is tells. absurd (let lt = slice_get_within steps i (Some step) is in omega arith);
}

pub links_from_end : (steps : List (Option Step)) (links : List EvidenceLink) → links ≡ [] → AreLinksFrom steps (length steps) links
links_from_end steps links e = record {
  each = λ x h. absurd (none x (subst (λ (xs : List EvidenceLink). Contains xs x) e h));
  every = λ i step le n is. absurd (let lt = slice_get_within steps i (Some step) is in omega arith);
}

-- ---- a place more

persons_add : (steps : List (Option Step)) (n : ℕ) (persons more : List EvidencePerson) → ((p : EvidencePerson) → Contains more p → IsPersonAt steps n p)
    → ((step : Step) (info : PersonInfo) → IsNeeded steps n → slice_get steps n ≡ Some (Some step) → step.info ≡ infos.Person info → (p : EvidencePerson) × Contains more p × IsPersonAt steps n p)
    → ArePersonsFrom steps (n + 1) persons → ArePersonsFrom steps n (persons ++ more)
persons_add steps n persons more at here a = record {
  each = λ p h. elim (Contains-append_cases persons more p h) [ inl was ↦ a.each p was | inr new ↦ (n, at p new) ];
  every = λ i step info le h is tells. elim (from_on n i le) [
    | inl past ↦ let m = a.every i step info past h is tells in (m.0, Contains-append_left persons more m.0 m.1, m.2)
    | inr now ↦ let m = here step info (rw now at h) (rw now at is) tells in (m.0, Contains-append_right persons more m.0 m.1, rw (← now) at m.2)
  ];
}

pub persons_more : (steps : List (Option Step)) (n count : ℕ) (b : Bool) (o : Option Step) (persons more : List EvidencePerson) → slice_get steps n ≡ Some o → IsCount steps n count → (IsNeeded steps n → b ≡ true) → more ≡ persons ++ persons_at b o count
    → ArePersonsFrom steps (n + 1) persons → ArePersonsFrom steps n more
persons_more steps n count b o persons more is counted needed pushed a = subst (λ (ps : List EvidencePerson). ArePersonsFrom steps n ps) (sym pushed) (by b o is needed)
  where
    nobody : ((step : Step) (info : PersonInfo) → IsNeeded steps n → slice_get steps n ≡ Some (Some step) → step.info ≡ infos.Person info → ⊥) → ArePersonsFrom steps n (persons ++ [])
    nobody never = persons_add steps n persons [] (λ p h. absurd (none p h)) (λ step info h is tells. absurd (never step info h is tells)) a

    one : (step : Step) (info : NodeInfo) → step.info ≡ info → slice_get steps n ≡ Some (Some step) → ArePersonsFrom steps n (persons ++ persons_by info step.link count)
    one step (infos.Entity legal) e at = nobody (λ x info h there person.
        let same = one_step steps n step x at there in
        let no : infos.Entity legal ≡ infos.Person info = sym e ∙ ap (λ (y : Step). y.info) same ∙ person in cc)
    one step (infos.Person info) e at =
        let person : EvidencePerson = record { node = step.link.party; info = info; first = step.link; links = count } in
        let there : IsPersonAt steps n person = record { step = step; is = at; info = e; node = refl; first = refl; count = counted } in
        persons_add steps n persons (person ∷ []) (λ p h. rw (one_of person p h) at there) (λ x who h is tells. (person, here person [], there)) a

    by : (t : Bool) (p : Option Step) → slice_get steps n ≡ Some p → (IsNeeded steps n → t ≡ true) → ArePersonsFrom steps n (persons ++ persons_at t p count)
    by false p at is = nobody (λ x info h there person. let no : false ≡ true = is h in cc)
    by true None at is = nobody (λ x info h there person. let no : None ≡ Some x = same_Some None (Some x) (sym at ∙ there) in cc)
    by true (Some step) at is = one step step.info refl at

links_add : (steps : List (Option Step)) (n : ℕ) (links more : List EvidenceLink) → ((x : EvidenceLink) → Contains more x → IsNeeded steps n × IsLinkAt steps n x)
    → ((step : Step) → IsNeeded steps n → slice_get steps n ≡ Some (Some step) → (x : EvidenceLink) × Contains more x × IsLinkAt steps n x) → AreLinksFrom steps (n + 1) links → AreLinksFrom steps n (links ++ more)
links_add steps n links more at here a = record {
  each = λ x h. elim (Contains-append_cases links more x h) [ inl was ↦ a.each x was | inr new ↦ let m = at x new in (n, m.0, m.1) ];
  every = λ i step le h is. elim (from_on n i le) [
    | inl past ↦ let m = a.every i step past h is in (m.0, Contains-append_left links more m.0 m.1, m.2)
    | inr now ↦ let m = here step (rw now at h) (rw now at is) in (m.0, Contains-append_right links more m.0 m.1, rw (← now) at m.2)
  ];
}

pub links_more : (steps below : List (Option Step)) (n : ℕ) (b : Bool) (o : Option Step) (links more : List EvidenceLink) → slice_get steps n ≡ Some o → ((i : ℕ) → i < n → slice_get below i ≡ slice_get steps i)
    → (IsNeeded steps n → b ≡ true) → (b ≡ true → IsNeeded steps n) → more ≡ links ++ links_at b o below → AreLinksFrom steps (n + 1) links → AreLinksFrom steps n more
links_more steps below n b o links more is before needed is_needed pushed a = subst (λ (xs : List EvidenceLink). AreLinksFrom steps n xs) (sym pushed) (by b o is needed is_needed)
  where
    nothing : ((step : Step) → IsNeeded steps n → slice_get steps n ≡ Some (Some step) → ⊥) → AreLinksFrom steps n (links ++ [])
    nothing never = links_add steps n links [] (λ x h. absurd (none x h)) (λ step h is. absurd (never step h is)) a

    by : (t : Bool) (p : Option Step) → slice_get steps n ≡ Some p → (IsNeeded steps n → t ≡ true) → (t ≡ true → IsNeeded steps n) → AreLinksFrom steps n (links ++ links_at t p below)
    by false p at is back = nothing (λ x h there. let no : false ≡ true = is h in cc)
    by true None at is back = nothing (λ x h there. let no : None ≡ Some x = same_Some None (Some x) (sym at ∙ there) in cc)
    by true (Some step) at is back =
        let x : EvidenceLink = record { link = step.link; next = step_link (slice_get below step.below) } in
        let there : IsLinkAt steps n x = record { step = step; is = at; link = refl; next = λ lt. ap (λ (p : Option (Option Step)). step_link p) (before step.below lt) } in
        links_add steps n links (x ∷ []) (λ y h. (back refl, rw (one_of x y h) at there)) (λ y h found. (x, here x [], there)) a

-- ---- the last of those that are left

pub persons_taken : (steps left fewer : List (Option Step)) (o : Option Step) (n : ℕ) (counts : List ℕ) (needed : List Bool) (persons more : List EvidencePerson) → IsTaken steps left fewer o n → AreCounts steps (length steps) counts → AreNeeded steps 0 needed
    → more ≡ persons ++ persons_at (get_or needed n false) o (get_or counts n 0) → ArePersonsFrom steps (length left) persons → ArePersonsFrom steps (length fewer) more
persons_taken steps left fewer o n counts needed persons more t c d pushed a =
    subst (λ (i : ℕ). ArePersonsFrom steps i more) t.there
    (persons_more steps n (get_or counts n 0) (get_or needed n false) o persons more t.is counted (λ h. get_or_from_slice_get needed n true false (d.every n (omega arith) h)) pushed
    (subst (λ (i : ℕ). ArePersonsFrom steps i persons) t.long a))
  where
    counted : IsCount steps n (get_or counts n 0)
    counted = let lt = slice_get_within steps n o t.is in let long = c.long in (c.each n (get_or counts n 0) (slice_get-get_or counts n 0 (omega arith))).1

pub links_taken : (steps left fewer below : List (Option Step)) (o : Option Step) (n : ℕ) (needed : List Bool) (links more : List EvidenceLink) → IsTaken steps left fewer o n → AreNeeded steps 0 needed → below ≡ fewer
    → more ≡ links ++ links_at (get_or needed n false) o below → AreLinksFrom steps (length left) links → AreLinksFrom steps (length fewer) more
links_taken steps left fewer below o n needed links more t d same pushed a =
    subst (λ (i : ℕ). AreLinksFrom steps i more) t.there
    (links_more steps below n (get_or needed n false) o links more t.is (λ i lt. ap (λ (xs : List (Option Step)). slice_get xs i) same ∙ t.before i lt)
    (λ h. get_or_from_slice_get needed n true false (d.every n (omega arith) h)) (λ h. d.only n (there ∙ ap (λ (b : Bool). Some b) h)) pushed
    (subst (λ (i : ℕ). AreLinksFrom steps i links) t.long a))
  where
    there : slice_get needed n ≡ Some (get_or needed n false)
    there = let lt = slice_get_within steps n o t.is in let long = d.long in slice_get-get_or needed n false (omega arith)

-- ---- persons of places

-- the least chain from a person's mark is the person's evidence
held : (s : Shown) (e : Node) (m : Marked) (ls : List Link) → m.mark ≡ Holder → IsLeastDown s e m ls → IsEvidence s m.node ls e
held s e m ls is l =
    let d = subst (λ (k : Mark). DownAs s e m.node k ls) is l.down in
    record { chain = d.2; least = λ ks chain. l.least ks (subst (λ (k : Mark). DownAs s e m.node k ks) (sym is) (d.0, d.1, chain)) }

-- the person's evidence is read off from its place
record IsHeldAt (s : Shown) (e : Node) (w : Trail) (i : ℕ) (person : Node) (info : PersonInfo) : Type 0 where
  is_person : IsPerson s person info
  chain : List Link
  reads : ReadsOff w.steps.items i chain
  evidence : IsEvidence s person chain e

held_at : (s : Shown) (e : Node) (w : Trail) → IsAll s e w → (i : ℕ) (step : Step) (info : PersonInfo) → slice_get w.steps.items i ≡ Some (Some step) → step.info ≡ infos.Person info → IsHeldAt s e w i step.link.party info
held_at s e w all i step info is tells =
    let lt = slice_get_within w.steps.items i (Some step) is in
    let m = got_there w.marks i (omega (arith, lt, all.beside)) in by m.0 m.1 (m.0).mark refl (all.tells i m.0 step (m.1, is))
  where
    by : (m : Marked) → slice_get w.marks i ≡ Some m → (k : Mark) → m.mark ≡ k → TellsAs s m.node k step → IsHeldAt s e w i step.link.party info
    by m on Target z h = absurd h
    by m on Middle z h = let no : infos.Person info ≡ infos.Entity true = sym tells ∙ h in absurd cc
    by m on Holder z h =
        let r = all.each i m on in
        record {
          is_person = ap (λ (n : Node). info_of s n) (sym h.0) ∙ sym h.1 ∙ ap (λ (x : NodeInfo). Some x) tells;
          chain = r.0;
          reads = r.1;
          evidence = subst (λ (n : Node). IsEvidence s n r.0 e) h.0 (held s e m r.0 z r.2);
        }

-- each person with evidence has a place from which it is read off
record IsPlacedAt (s : Shown) (w : Trail) (person : Node) (info : PersonInfo) (chain : List Link) : Type 0 where
  place : ℕ
  step : Step
  is : slice_get w.steps.items place ≡ Some (Some step)
  tells : step.info ≡ infos.Person info
  party : person ≡ step.link.party
  reads : ReadsOff w.steps.items place chain
  needed : IsNeeded w.steps.items place

placed : (s : Shown) (e : Node) (w : Trail) → IsAll s e w → (person : Node) (info : PersonInfo) (chain : List Link) → IsPerson s person info → IsEvidence s person chain e → IsPlacedAt s w person info chain
placed s e w all person info chain is_person evidence =
    let g = got w.marks m (all.every m chain (info, is_person, evidence.chain)) in
    let r = all.each g.0 m g.1 in
    let same = evidence_is_one s person e r.0 chain (held s e m r.0 refl r.2) evidence in
    by chain evidence g.0 g.1 (subst (λ (ls : List Link). ReadsOff w.steps.items g.0 ls) same r.1)
  where
    m : Marked
    m = record { node = person; mark = Holder }

    by : (ls : List Link) → IsEvidence s person ls e → (i : ℕ) → slice_get w.marks i ≡ Some m → ReadsOff w.steps.items i ls → IsPlacedAt s w person info ls
    by [] h i on reads = absurd h.chain
    by (l ∷ ls) h i on reads =
        let step = reads.0 in
        let t = all.tells i m step (on, reads.1) in
        let tells = same_Some step.info (infos.Person info) (t.1 ∙ is_person) in
        let needed = needed_person w.steps.items i step info (is_down w.steps.items i step reads.1 reads.2) tells in
        record { place = i; step = step; is = reads.1; tells = tells; party = t.0; reads = reads; needed = needed }

-- ---- links of places

-- the link of a place is the first that is read off there, with the one that follows
link_at_is : (steps : List (Option Step)) (i : ℕ) (l : Link) (ls : List Link) (x : EvidenceLink) → ReadsOff steps i (l ∷ ls) → IsLinkAt steps i x → x ≡ record { link = l; next = first_of ls }
link_at_is steps i l ls x r at =
    let same = one_step steps i at.step r.0 at.is r.1 in
    let low = subst (λ (y : Step). y.below < i) (sym same) r.2 in
    let rest = subst (λ (y : Step). ReadsOff steps y.below ls) (sym same) r.4 in
    evidence_link_is x (record { link = l; next = first_of ls }) (at.link ∙ ap (λ (y : Step). y.link) same ∙ r.3) (at.next low ∙ next (at.step).below ls rest)
  where
    next : (j : ℕ) (ks : List Link) → ReadsOff steps j ks → step_link (slice_get steps j) ≡ first_of ks
    next j [] h = ap (λ (o : Option (Option Step)). step_link o) h
    next j (k ∷ ks) h = ap (λ (o : Option (Option Step)). step_link o) h.1 ∙ ap (λ (y : Link). Some y) h.3

link_of_first : (l : Link) (ls : List Link) (x : EvidenceLink) → x ≡ record { link = l; next = first_of ls } → IsLinkOf (l ∷ ls) x
link_of_first l [] x h = h
link_of_first l (k ∷ ls) x h = inl h

link_of_more : (ls ks : List Link) (x : EvidenceLink) → IsLinkOf ks x → IsLinkOf (ls ++ ks) x
link_of_more [] ks x h = h
link_of_more (l ∷ []) [] x h = absurd h
link_of_more (l ∷ []) (k ∷ ks) x h = inr h
link_of_more (l ∷ j ∷ ls) ks x h = inr (link_of_more (j ∷ ls) ks x h)

-- the link of a needed place is one of evidence
link_told : (s : Shown) (e : Node) (w : Trail) → IsAll s e w → (i : ℕ) (x : EvidenceLink) → IsNeeded w.steps.items i → IsLinkAt w.steps.items i x → IsOfEvidence s e x
link_told s e w all i x n at =
    let lt = slice_get_within w.steps.items i (Some at.step) at.is in
    let m = got_there w.marks i (omega (arith, lt, all.beside)) in
    let r = all.each i m.0 m.1 in by r.0 r.1
  where
    h : IsHeldAt s e w n.place n.step.link.party n.info
    h = held_at s e w all n.place n.step n.info (down_is w.steps.items n.place n.step n.is).0 n.person

    by : (ls : List Link) → ReadsOff w.steps.items i ls → IsOfEvidence s e x
    by [] reads = absurd (let no : None ≡ Some at.step = same_Some None (Some at.step) (sym reads ∙ at.is) in cc)
    by (l ∷ ls) reads =
        let whole = reads_more w.steps.items n.place n.links i (l ∷ ls) n.leads reads in
        let same = one_reading w.steps.items n.place (n.links ++ l ∷ ls) h.chain whole h.reads in
        record {
          person = n.step.link.party;
          info = n.info;
          chain = n.links ++ l ∷ ls;
          is_person = h.is_person;
          evidence = subst (λ (ks : List Link). IsEvidence s n.step.link.party ks e) (sym same) h.evidence;
          is_link = link_of_more n.links (l ∷ ls) x (link_of_first l ls x (link_at_is w.steps.items i l ls x reads at));
        }

-- each link that is read off from a needed place is there
link_here : (steps : List (Option Step)) (links : List EvidenceLink) → AreLinksFrom steps 0 links → (i : ℕ) (l : Link) (ls : List Link) → ReadsOff steps i (l ∷ ls) → IsNeeded steps i → (x : EvidenceLink) → x ≡ record { link = l; next = first_of ls } → Contains links x
link_here steps links all i l ls r n x same = let y = all.every i r.0 (omega arith) n r.1 in subst (λ (z : EvidenceLink). Contains links z) (link_at_is steps i l ls y.0 r y.2 ∙ sym same) y.1

links_read : (steps : List (Option Step)) (links : List EvidenceLink) → AreLinksFrom steps 0 links → (i : ℕ) (ls : List Link) → ReadsOff steps i ls → IsNeeded steps i → (x : EvidenceLink) → IsLinkOf ls x → Contains links x
links_read steps links all i [] r n x is = absurd is
links_read steps links all i (l ∷ []) r n x is = link_here steps links all i l [] r n x is
links_read steps links all i (l ∷ k ∷ ls) r n x is = elim is [
  | inl same ↦ link_here steps links all i l (k ∷ ls) r n x same
  | inr later ↦ links_read steps links all (r.0).below (k ∷ ls) r.4 (needed_below steps i r.0 n (is_down steps i r.0 r.1 r.2)) x later
]

link_found : (s : Shown) (e : Node) (w : Trail) (links : List EvidenceLink) → IsAll s e w → AreLinksFrom w.steps.items 0 links → (x : EvidenceLink) → IsOfEvidence s e x → Contains links x
link_found s e w links all a x h =
    let p = placed s e w all h.person h.info h.chain h.is_person h.evidence in links_read w.steps.items links a p.place h.chain p.reads p.needed x h.is_link

-- ---- in order, each once

-- links that are one for the order are one
same_link : (x y : EvidenceLink) → same_in_tree x y ≡ true → x.link ≡ y.link
same_link x y h =
    let tied : tree_cmp x y ≡ Equal = grind (arith, h) in
    exact_link x.link y.link (parts (reading_cmp (link_record x.link) (link_record y.link)) (link_cmp x.link y.link) tied).1

pub tree_links : (s : Shown) (e : Node) (w : Trail) (found ys : List EvidenceLink) → IsAll s e w → AreLinksFrom w.steps.items 0 found → IsPermutation found ys → (x : EvidenceLink) → Contains (dedup same_in_tree ys) x ↔ IsOfEvidence s e x
tree_links s e w found ys all a p x = (was x, there)
  where
    was : (y : EvidenceLink) → Contains (dedup same_in_tree ys) y → IsOfEvidence s e y
    was y h = let f = a.each y (Contains-permutation ys found y (IsPermutation-sym found ys p) (Contains-from_dedup same_in_tree ys y h)) in link_told s e w all f.0 y f.1 f.2

    there : IsOfEvidence s e x → Contains (dedup same_in_tree ys) x
    there h =
        let y = Any-dedup tree_equiv ys x (Contains-permutation found ys x p (link_found s e w found all a x h)) in
        let on : Contains (dedup same_in_tree ys) y.1 = (y.0, y.2, y.3) in
        subst (λ (z : EvidenceLink). Contains (dedup same_in_tree ys) z) (sym (one_way_on s e x y.1 h (was y.1 on) (same_link x y.1 y.4))) on

-- a list in order, and of those that are one each once
pub record AreOnceInOrder {X : Type 0} (cmp : X → X → Ordering) (same_one : X → X → Bool) (found ordered once_each : List X) : Type 0 where
  pub same : IsPermutation found ordered
  pub sorted : IsSorted cmp ordered
  pub once : IsFiltered (DiffersFromLast same_one) [] ordered once_each

-- a person of a place is named by the tree
named : (s : Shown) (e : Node) (w : Trail) (tree : List EvidenceLink) → IsAll s e w → ((x : EvidenceLink) → IsOfEvidence s e x → Contains tree x) → (i : ℕ) (person : EvidencePerson) → IsPersonAt w.steps.items i person → IsNamedBy s e tree person
named s e w tree all has i person at = record {
  is_person = subst (λ (n : Node). IsPerson s n person.info) (sym at.node) h.is_person;
  chain = h.chain;
  read = read h.chain h.evidence h.reads;
  evidence = subst (λ (n : Node). IsEvidence s n h.chain e) (sym at.node) h.evidence;
  long = at.count h.chain h.reads;
}
  where
    h : IsHeldAt s e w i at.step.link.party person.info
    h = held_at s e w all i at.step person.info at.is at.info

    read : (ls : List Link) → IsEvidence s at.step.link.party ls e → ReadsOff w.steps.items i ls → AreReadOff tree person.first ls
    read [] evidence reads = absurd evidence.chain
    read (l ∷ ls) evidence reads =
        let first : l ≡ person.first = sym reads.3 ∙ ap (λ (y : Step). y.link) (one_step w.steps.items i reads.0 at.step reads.1 at.is) ∙ sym at.first in
        subst (λ (k : Link). AreReadOff tree k (l ∷ ls)) first
        (read_off tree l ls (λ x is. has x (record { person = at.step.link.party; info = person.info; chain = l ∷ ls; is_person = h.is_person; evidence = evidence; is_link = is })))

-- each person with a chain has a place
person_found : (s : Shown) (e : Node) (w : Trail) (found : List EvidencePerson) → IsAll s e w → ArePersonsFrom w.steps.items 0 found → (person : Node) (info : PersonInfo) (ls : List Link) → IsJoinedBy s e person info ls
    → (p : EvidencePerson) × Contains found p × (p.node ≡ person)
person_found s e w found all a person info ls joined =
    let g = got w.marks m (all.every m ls (info, joined.0, joined.1)) in
    let r = all.each g.0 m g.1 in
    let p = placed s e w all person info r.0 joined.0 (held s e m r.0 refl r.2) in
    let q = a.every p.place p.step info (omega arith) p.needed p.is p.tells in
    (q.0, q.1, (q.2).node ∙ ap (λ (y : Step). y.link.party) (one_step w.steps.items p.place (q.2).step p.step (q.2).is p.is) ∙ sym p.party)
  where
    m : Marked
    m = record { node = person; mark = Holder }

pub all_evidenced : (s : Shown) (e : Node) (w : Trail) (persons ps qs : List EvidencePerson) (links xs ys : List EvidenceLink) → IsAll s e w → ArePersonsFrom w.steps.items 0 persons → AreLinksFrom w.steps.items 0 links
    → AreOnceInOrder evidence_cmp same_evidence persons ps qs → AreOnceInOrder tree_cmp same_in_tree links xs ys → AreEvidenced s e (record { persons = qs; links = ys })
all_evidenced s e w persons ps qs links xs ys all a b p x =
    subst (λ (zs : List EvidencePerson). AreEvidenced s e (record { persons = zs; links = ys })) (sym (dedup_is same_evidence ps qs p.once))
    (subst (λ (zs : List EvidenceLink). AreEvidenced s e (record { persons = dedup same_evidence ps; links = zs })) (sym (dedup_is same_in_tree xs ys x.once)) (record {
      each = told;
      every = every;
      sorted = IsStrictlySortedBy-dedup evidence_total evidence_ties ps p.sorted;
      links = tree;
      links_sorted = IsStrictlySortedBy-dedup tree_total (λ y z. refl) xs x.sorted;
    }))
  where
    tree : (y : EvidenceLink) → Contains (dedup same_in_tree xs) y ↔ IsOfEvidence s e y
    tree y = tree_links s e w links xs all b x.same y

    told : (q : EvidencePerson) → Contains (dedup same_evidence ps) q → IsNamedBy s e (dedup same_in_tree xs) q
    told q h =
        let f = a.each q (Contains-permutation ps persons q (IsPermutation-sym persons ps p.same) (Contains-from_dedup same_evidence ps q h)) in
        named s e w (dedup same_in_tree xs) all (λ y is. (tree y).1 is) f.0 q f.1

    every : (person : Node) (info : PersonInfo) (ls : List Link) → IsJoinedBy s e person info ls → (q : EvidencePerson) × Contains (dedup same_evidence ps) q × (q.node ≡ person) × (q.info ≡ info)
    every person info ls joined =
        let f = person_found s e w persons all a person info ls joined in
        let q = Any-dedup evidence_equiv ps f.0 (Contains-permutation persons ps f.0 p.same f.1) in
        let on : Contains (dedup same_evidence ps) q.1 = (q.0, q.2, q.3) in
        let same : (q.1).node ≡ person = sym (same_node_is (f.0).node (q.1).node q.4) ∙ f.2 in
        (q.1, on, same, one_info s (q.1).node person (q.1).info info same (told q.1 on).is_person joined.0)
