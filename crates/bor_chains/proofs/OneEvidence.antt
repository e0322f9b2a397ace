-- Evidence is determined, by the order of chains: a link of it has one way on, it is read off its tree, and it names the persons joined.
use Rattle.std.proofs.Common.{◌≡◌, ◌<◌, ◌≤◌, true, List, ◌∷◌, length, arith, Option, Some, None, [], IsTrue, sym, refl, ap, ◌∙◌, subst, inl, inr, ℕ, map, Contains}
use Rattle.std.specs.declared.cmp.Ordering.{Ordering}
use Rattle.std.specs.declared.cmp.Ordering.TheVariants.{Less, Equal}
use Rattle.std.specs.Ordering.{nat_cmp, ordering_reverse, is_le}
use Rattle.std.specs.Cmp.{IsTotalOrder, on_total, then_total, nat_cmp_total}
use Rattle.std.specs.Cmp.Lexicographic.{slice_cmp, lists_total}
use Rattle.std.specs.FinMap.{slice_cmp-IsAntisymmetric}
use Rattle.std.proofs.lemmas.Bool.Decides.{nat_tests}
use Rattle.std.proofs.lemmas.Cmp.{tied_itself}
use Rattle.std.specs.List.{AllByRecursion}
use Rattle.std.specs.List.Sorted.{IsStrictlySortedBy}
use Rattle.std.proofs.lemmas.Option.{same_Some}
use Rattle.bor_records.specs.declared.links.node.Link.{Link}
use Rattle.bor_records.specs.Links.Nodes.{link_cmp}
use Rattle.bor_records.proofs.OnLinks.Exact.{parts, exact_link}
use Rattle.bor_records.specs.declared.links.node.Node.{Node}
use Rattle.bor_records.specs.Links.Shown.{Shown, IsPerson}
use Rattle.bor_records.specs.Links.Aliases.{Same}
use Rattle.bor_records.specs.Links.Rows.{nodes_of, links_of}
use Rattle.bor_records.proofs.OnLinks.OfRows.{links_by_record}
use Rattle.bor_records.proofs.OnLinks.Found.{Contains-map, Contains-from_map}
use Rattle.bor_chains.specs.Lines.{link_total, line_cmp, evidence_cmp, evidence_total, tree_cmp, tree_total}
use Rattle.bor_chains.specs.Evidence.{chain_cmp, IsNotAfter, IsEvidence, IsLinkOf, IsOfEvidence, AreReadOff, AreEvidenced, without_chain}
use Rattle.bor_chains.specs.declared.tree.EvidenceLink.{EvidenceLink}
use Rattle.bor_chains.specs.Chains.{IsChain, IsLeast}
use Rattle.bor_chains.specs.Laws.{LinksHaveOneWayOn, EvidenceIsKnownByRecord, EvidenceEndsAtTheEntity, EvidenceIsOne, EvidenceIsDetermined, EvidenceIsReadOff, EvidenceNamesTheJoined}
use Rattle.bor_chains.proofs.Reach.{chain_starts, chain_listed}
use Rattle.bor_chains.specs.declared.line.PersonLine.{PersonLine}
use Rattle.bor_chains.specs.declared.tree.Evidence.{Evidence}
use Rattle.bor_chains.specs.declared.tree.EvidencePerson.{EvidencePerson}
use Rattle.bor_chains.proofs.OneAnswer.{one_sorted}

chain_total : IsTotalOrder chain_cmp
chain_total = then_total (on_total (λ (ls : List Link). length ls) nat_cmp_total) (lists_total link_total)

-- ---- the order of chains: lists of one length

-- a first link that is less
pub less_first : (l k : Link) (ls ks : List Link) → length ls ≡ length ks → link_cmp l k ≡ Less → IsNotAfter (l ∷ ls) (k ∷ ks)
less_first l k ls ks long less = grind (arith, nat_tests)

-- one first link
pub same_first : (l : Link) (ls ks : List Link) → length ls ≡ length ks → IsNotAfter ls ks → IsNotAfter (l ∷ ls) (l ∷ ks)
same_first l ls ks long h = let tied = tied_itself link_total l in grind (arith, nat_tests)

-- ---- lists of any length

pub shorter : (ls ks : List Link) → length ls < length ks → IsNotAfter ls ks
shorter ls ks lt = grind (arith, nat_tests)

pub itself : (ls : List Link) → IsNotAfter ls ls
itself ls = let tied = tied_itself chain_total ls in grind arith

-- what isn't after is no longer
pub no_longer : (ls ks : List Link) → IsNotAfter ls ks → length ls ≤ length ks
no_longer ls ks h = grind (arith, nat_tests)

-- .. and of two that begin with one link, neither are the rests
pub less_rest : (l : Link) (ls ks : List Link) → IsNotAfter (l ∷ ls) (l ∷ ks) → IsNotAfter ls ks
less_rest l ls ks h = let tied = tied_itself link_total l in grind (arith, nat_tests)

-- ---- no two are both not after each other

pub tied : (o p : Ordering) → o ≡ ordering_reverse p → is_le o ≡ true → is_le p ≡ true → o ≡ Equal
tied o p e f g = grind arith

pub one_chain : (ls ks : List Link) → IsNotAfter ls ks → IsNotAfter ks ls → ls ≡ ks
one_chain ls ks h j =
    let same = tied (chain_cmp ls ks) (chain_cmp ks ls) (chain_total.antisymm ls ks) h j in
    slice_cmp-IsAntisymmetric exact_link ls ks (parts (nat_cmp (length ls) (length ks)) (slice_cmp link_cmp ls ks) same).1

-- ---- one way on

-- the first of some links, where there is one
abbrev pub first_of : List Link → Option Link
first_of [] = None
first_of (l ∷ ls) = Some l

pub evidence_link_is : (x y : EvidenceLink) → x.link ≡ y.link → x.next ≡ y.next → x ≡ y
evidence_link_is x y p q = λ i. record { link = p i; next = q i }

-- these come after a link in a chain, and before all others that do
record IsLeastAfter (s : Shown) (l : Link) (rest : List Link) (e : Node) : Type 0 where
  chain : IsChain s l.party (l ∷ rest) e
  least : (ks : List Link) → IsChain s l.party (l ∷ ks) e → IsNotAfter rest ks

least_first : (s : Shown) (person e : Node) (l : Link) (rest : List Link) → IsEvidence s person (l ∷ rest) e → IsLeastAfter s l rest e
least_first s person e l rest h =
    let starts = chain_starts s person l rest e h.chain in
    record {
      chain = subst (λ (n : Node). IsChain s n (l ∷ rest) e) (sym starts) h.chain;
      least = λ ks chain. less_rest l rest ks (h.least (l ∷ ks) (subst (λ (n : Node). IsChain s n (l ∷ ks) e) starts chain));
    }

least_next : (s : Shown) (e : Node) (l k : Link) (rest : List Link) → IsLeastAfter s l (k ∷ rest) e → IsLeastAfter s k rest e
least_next s e l k rest h =
    let c = h.chain in
    record { chain = c.5; least = λ ks chain. less_rest k rest ks (h.least (k ∷ ks) (c.0, c.1, c.2, c.3, c.4, chain)) }

-- what comes after one of the links
record IsGoneOn (s : Shown) (e : Node) (x : EvidenceLink) : Type 0 where
  rest : List Link
  least : IsLeastAfter s x.link rest e
  next : x.next ≡ first_of rest

gone_on_from : (s : Shown) (e : Node) (x : EvidenceLink) (l : Link) (ls : List Link) → IsLeastAfter s l ls e → x ≡ record { link = l; next = first_of ls } → IsGoneOn s e x
gone_on_from s e x l ls h is = record {
  rest = ls;
  least = subst (λ (k : Link). IsLeastAfter s k ls e) (sym (ap (λ (y : EvidenceLink). y.link) is)) h;
  next = ap (λ (y : EvidenceLink). y.next) is;
}

gone_on : (s : Shown) (e : Node) (x : EvidenceLink) (l : Link) (ls : List Link) → IsLeastAfter s l ls e → IsLinkOf (l ∷ ls) x → IsGoneOn s e x
gone_on s e x l [] h is = gone_on_from s e x l [] h is
gone_on s e x l (k ∷ ls) h is = elim is [
  | inl here ↦ gone_on_from s e x l (k ∷ ls) h here
  | inr later ↦ gone_on s e x k ls (least_next s e l k ls h) later
]

of_evidence : (s : Shown) (e : Node) (x : EvidenceLink) → IsOfEvidence s e x → IsGoneOn s e x
of_evidence s e x h = by h.chain h.evidence h.is_link
  where
    by : (ls : List Link) → IsEvidence s h.person ls e → IsLinkOf ls x → IsGoneOn s e x
    by [] evidence is = absurd is
    by (l ∷ ls) evidence is = gone_on s e x l ls (least_first s h.person e l ls evidence) is

pub one_way_on : LinksHaveOneWayOn
one_way_on s e x y h j same =
    let a = of_evidence s e x h in
    let b = of_evidence s e y j in
    let other = subst (λ (l : Link). IsLeastAfter s l b.rest e) (sym same) b.least in
    let rest = one_chain a.rest b.rest ((a.least).least b.rest other.chain) (other.least a.rest (a.least).chain) in
    evidence_link_is x y same (a.next ∙ ap (λ (ls : List Link). first_of ls) rest ∙ sym b.next)

pub by_record : EvidenceIsKnownByRecord
by_record day rows e x y h j same =
    let s : Shown = record { nodes = nodes_of day rows; links = links_of day rows } in
    let a = of_evidence s e x h in
    let b = of_evidence s e y j in
    one_way_on s e x y h j (links_by_record day rows x.link y.link (chain_listed s x.link.party x.link a.rest e (a.least).chain) (chain_listed s y.link.party y.link b.rest e (b.least).chain) same)

pub ends_there : EvidenceEndsAtTheEntity
ends_there s e x h = let a = of_evidence s e x h in (forth a, λ p. back a p.0 p.1)
  where
    forth : IsGoneOn s e x → x.next ≡ None → Same s x.link.subject e × IsTrue x.link.holding
    forth a last = by a.rest (a.least).chain (sym a.next ∙ last)
      where
        by : (ls : List Link) → IsChain s x.link.party (x.link ∷ ls) e → first_of ls ≡ None → Same s x.link.subject e × IsTrue x.link.holding
        by [] chain no_more = (chain.3, chain.2)
        by (k ∷ ls) chain no_more = absurd (let no : Some k ≡ None = no_more in cc)

    back : IsGoneOn s e x → Same s x.link.subject e → IsTrue x.link.holding → x.next ≡ None
    back a same holding = by a.rest a.next (no_longer a.rest [] ((a.least).least [] (chain_listed s x.link.party x.link a.rest e (a.least).chain, refl, holding, same)))
      where
        by : (ls : List Link) → x.next ≡ first_of ls → length ls ≤ 0 → x.next ≡ None
        by [] next few = next
        by (k ∷ ls) next few = absurd (omega (arith, few))

-- ---- one list of links

pub evidence_is_one : EvidenceIsOne
evidence_is_one s person e ls ks a b = one_chain ls ks (a.least ks b.chain) (b.least ls a.chain)

-- ---- what is read off

-- a tree that has all links of a chain has the chain
pub read_off : (tree : List EvidenceLink) (l : Link) (ls : List Link) → ((x : EvidenceLink) → IsLinkOf (l ∷ ls) x → Contains tree x) → AreReadOff tree l (l ∷ ls)
read_off tree l [] has = (refl, has (record { link = l; next = None }) refl)
read_off tree l (k ∷ ls) has = (refl, has (record { link = l; next = Some k }) (inl refl), read_off tree k ls (λ x h. has x (inr h)))

read_first : (tree : List EvidenceLink) (first : Link) (ls : List Link) → AreReadOff tree first ls → Some first ≡ first_of ls
read_first tree first [] h = absurd h
read_first tree first (l ∷ []) h = ap (λ (k : Link). Some k) h.0
read_first tree first (l ∷ k ∷ ls) h = ap (λ (j : Link). Some j) h.0

-- what is read off a tree in which each link stands once is one list
one_read : (tree : List EvidenceLink) → ((x y : EvidenceLink) → Contains tree x → Contains tree y → x.link ≡ y.link → x ≡ y) → (a : Link) (ls ks : List Link) → AreReadOff tree a ls → AreReadOff tree a ks → ls ≡ ks
one_read tree once a [] ks h j = absurd h
one_read tree once a (l ∷ ls) [] h j = absurd j
one_read tree once a (l ∷ []) (k ∷ []) h j = ap (λ (x : Link). x ∷ []) (sym h.0 ∙ j.0)
one_read tree once a (l ∷ []) (k ∷ n ∷ ks) h j = absurd (grind (arith, once (record { link = l; next = None }) (record { link = k; next = Some n }) h.1 j.1 (sym h.0 ∙ j.0)))
one_read tree once a (l ∷ m ∷ ls) (k ∷ []) h j = absurd (grind (arith, once (record { link = l; next = Some m }) (record { link = k; next = None }) h.1 j.1 (sym h.0 ∙ j.0)))
one_read tree once a (l ∷ m ∷ ls) (k ∷ n ∷ ks) h j =
    let link = sym h.0 ∙ j.0 in
    let same = once (record { link = l; next = Some m }) (record { link = k; next = Some n }) h.1 j.1 link in
    let next = same_Some m n (ap (λ (x : EvidenceLink). x.next) same) in
    let rest = one_read tree once m (m ∷ ls) (n ∷ ks) h.2 (subst (λ (x : Link). AreReadOff tree x (n ∷ ks)) (sym next) j.2) in
    ap (λ (x : Link). x ∷ m ∷ ls) link ∙ ap (λ (xs : List Link). k ∷ xs) rest

pub evidence_is_read_off : EvidenceIsReadOff
evidence_is_read_off s e tree person ls a on read =
    let p = a.each person on in
    let same = one_read tree.links (λ x y h j link. one_way_on s e x y ((a.links x).0 h) ((a.links y).0 j) link) person.first p.chain ls p.read read in
    (subst (λ (ks : List Link). IsEvidence s person.node ks e) same p.evidence, ap (λ (ks : List Link). length ks) (sym same) ∙ p.long)

-- ---- one tree

person_is : (x y : EvidencePerson) → x.node ≡ y.node → x.info ≡ y.info → x.first ≡ y.first → x.links ≡ y.links → x ≡ y
person_is x y p q r t = λ i. record { node = p i; info = q i; first = r i; links = t i }

-- a person of one tree is one of the other
listed : (s : Shown) (e : Node) (xs ys : Evidence) → AreEvidenced s e xs → AreEvidenced s e ys → (x : EvidencePerson) → Contains xs.persons x → Contains ys.persons x
listed s e xs ys a b x h =
    let j = a.each x h in
    let m = b.every x.node x.info j.chain (j.is_person, (j.evidence).chain) in
    let k = b.each m.0 m.1 in
    let same = evidence_is_one s x.node e k.chain j.chain (subst (λ (n : Node). IsEvidence s n k.chain e) m.2 k.evidence) j.evidence in
    let first = read_first ys.links (m.0).first k.chain k.read ∙ ap (λ (ls : List Link). first_of ls) same ∙ sym (read_first xs.links x.first j.chain j.read) in
    let long = sym k.long ∙ ap (λ (ls : List Link). length ls) same ∙ j.long in
    subst (λ (p : EvidencePerson). Contains ys.persons p) (person_is m.0 x m.2 m.3 (same_Some (m.0).first x.first first) long) m.1

pub evidence_is_determined : EvidenceIsDetermined
evidence_is_determined s e xs ys a b = λ i. record {
  persons = one_sorted evidence_cmp evidence_total xs.persons ys.persons a.sorted b.sorted (listed s e xs ys a b) (listed s e ys xs b a) i;
  links = one_sorted tree_cmp tree_total xs.links ys.links a.links_sorted b.links_sorted (λ x h. (b.links x).1 ((a.links x).0 h)) (λ x h. (a.links x).1 ((b.links x).0 h)) i;
}

-- ---- without the chains

all_less : (x : EvidencePerson) (ys : List EvidencePerson) → AllByRecursion (λ y. evidence_cmp x y ≡ Less) ys → AllByRecursion (λ y. line_cmp (without_chain x) y ≡ Less) (map without_chain ys)
all_less x [] h = h
all_less x (y ∷ ys) h = (h.0, all_less x ys h.1)

still_sorted : (xs : List EvidencePerson) → IsStrictlySortedBy evidence_cmp xs → IsStrictlySortedBy line_cmp (map without_chain xs)
unfolding IsStrictlySortedBy
still_sorted [] h = h
still_sorted (x ∷ xs) h = (all_less x xs h.0, still_sorted xs h.1)

pub evidence_names_the_joined : EvidenceNamesTheJoined
evidence_names_the_joined s e tree a = record {
  each = λ line h. let m = Contains-from_map without_chain tree.persons line h in subst (λ (l : PersonLine). IsPerson s l.node l.info × IsLeast s e l.node l.links) m.2 (each m.0 m.1);
  every = λ person info ls joined. let m = a.every person info ls joined in (without_chain m.0, Contains-map without_chain tree.persons m.0 m.1, m.2, m.3);
  sorted = still_sorted tree.persons a.sorted;
}
  where
    each : (p : EvidencePerson) → Contains tree.persons p → IsPerson s p.node p.info × IsLeast s e p.node p.links
    each p h = let j = a.each p h in (
      j.is_person,
      record {
        some = (j.chain, (j.evidence).chain, j.long);
        none_fewer = λ ls chain. subst (λ (n : ℕ). n ≤ length ls) j.long (no_longer j.chain ls ((j.evidence).least ls chain));
      },
    )
