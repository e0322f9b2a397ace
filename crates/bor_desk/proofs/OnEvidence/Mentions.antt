-- Each record that stands in evidence is open, and what all of them say is one list; the links as evidence tells them, and the evidence as a whole.
use Rattle.std.proofs.Common.{◌≡◌, ◌∙◌, ◌↔◌, ◌&&◌, ℤ, arith, Bool, true, false, cond, Option, Some, None, option_map, List, [], ◌∷◌, Contains, map, refl, sym, ap, subst, inl, inr, ◌+◌, ◌<◌, ◌≤◌, ◌++◌, ℕ, take, length, get_or, append-nil, length-append, Vec, Global, vec_capacity, Ok}
use Rattle.std.specs.Prelude.{MatchBool}
use Rattle.std.specs.List.Sorted.{IsStrictlySortedBy}
use Rattle.std.specs.Cmp.{IsTotalOrder, on_total, then_total}
use Rattle.std.specs.Cmp.Lexicographic.{nat_list_cmp_total}
use Rattle.std.proofs.lemmas.Bool.{and_parts}
use Rattle.std.proofs.lemmas.Option.{cond_some, option_and_then_some, same_Some}
use Rattle.std.specs.List.{find}
use Rattle.std.proofs.lemmas.List.{take_more}
use Rattle.bods_read.specs.declared.details.Identifier.{Identifier}
use Rattle.bor_records.specs.declared.row.Row.{Row}
use Rattle.bor_records.specs.declared.links.node.Node.{Node}
use Rattle.bor_records.specs.declared.links.node.NodeInfo.{NodeInfo}
use Rattle.bor_records.specs.declared.links.node.OpenNode.{OpenNode}
use Rattle.bor_records.specs.declared.links.node.Link.{Link}
use Rattle.bor_records.specs.OpenRows.{open_rows}
use Rattle.bor_records.specs.Links.Nodes.{link_record, same_node}
use Rattle.bor_records.specs.Links.Answers.{Identified}
use Rattle.bor_records.specs.Links.Shown.{info_in, info_of, listed_at, Shown}
use Rattle.bor_records.specs.Links.Aliases.{IsAliasPath, Same}
use Rattle.bor_records.specs.Links.Series.{open_at, series_of, is_of}
use Rattle.bor_records.specs.Links.Rows.{between_open, is_entity_info, is_some_info, link_in, link_stated, links_of, node_in, nodes_of, shown_of}
use Rattle.bor_records.proofs.OnLinks.ByKey.{listed_by_key, open_at_in, open_row_at}
use Rattle.bor_records.proofs.OnLinks.Found.{none, here, there, cases, Contains-from_filter_map, Contains-map, Contains-from_map}
use Rattle.bor_records.proofs.OnLinks.OfRows.{links_of_rows}
use Rattle.bor_chains.specs.declared.tree.Evidence.{Evidence}
use Rattle.bor_chains.specs.declared.tree.EvidenceLink.{EvidenceLink}
use Rattle.bor_chains.specs.Chains.{IsChain}
use Rattle.bor_chains.specs.Lines.{reading_cmp}
use Rattle.bor_chains.specs.Evidence.{AreEvidenced, IsLinkOf}
use Rattle.bor_records.proofs.OnLinks.SignsOfRows.{node_of}
use Rattle.bor_chains.proofs.OneAnswer.{one_sorted}
use Rattle.bor_desk.specs.declared.evidence.lines.LinkEvidence.{LinkEvidence}
use Rattle.bor_desk.specs.declared.evidence.lines.RecordEvidence.{RecordEvidence}
use Rattle.bor_desk.specs.Evidence.{AreLinkEvidence, AreRecords, IsBridge, IsLeastWay, IsLinkEvidence, IsMentioned, IsWay, as_entity, as_person, as_link, as_subject, as_party, as_same, goal_of, record_evidence, record_node, person_evidence}
use Rattle.bor_desk.specs.Mentioned.{AreMentioned, record_before, records_at}
use Rattle.bor_records.proofs.OnLinks.Series.{open_are_latest}
use Rattle.bor_desk.specs.Operations.Sight.{unnumbered}
use Rattle.bor_desk.proofs.OnOperations.SeenLinks.{open_seen}
use Rattle.bor_desk.specs.declared.evidence.lines.EntityEvidence.{EntityEvidence}
use Rattle.bor_desk.specs.declared.refusal.Refusal.TheVariants.{NoEntity}
use Rattle.bor_desk.specs.Outcomes.{IsEvidenceFound, IsTreeFound}
use Rattle.bor_desk.specs.Step.{evidence, refused, report}
use Rattle.bor_desk.specs.Ways.{AreLinked}

-- ---- what is open

-- the row that the record shows
abbrev pub IsOpen : ℤ → List Row → Node → Type 0
IsOpen day seen n = (r : Row) × (open_at day n seen ≡ Some r)

module _ (day : ℤ) (seen : List Row) where
  listed_open : (n : Node) (x : OpenNode) → listed_at (nodes_of day seen) n ≡ Some x → IsOpen day seen n
  listed_open n x h = option_and_then_some node_in (open_at day n seen) x (sym (listed_by_key day n seen) ∙ h) (λ r is made. (r, is))

  -- something is known of an open node alone
  known_open : (n : Node) → is_some_info (info_in (nodes_of day seen) n) ≡ true → IsOpen day seen n
  known_open n h = go (listed_at (nodes_of day seen) n) refl h
    where
      go : (o : Option OpenNode) → listed_at (nodes_of day seen) n ≡ o → is_some_info (option_map (λ (x : OpenNode). x.info) o) ≡ true → IsOpen day seen n
      go None e k = absurd cc
      go (Some x) e k = listed_open n x e

  entity_open : (n : Node) → is_entity_info (info_in (nodes_of day seen) n) ≡ true → IsOpen day seen n
  entity_open n h = known_open n (go (info_in (nodes_of day seen) n) h)
    where
      go : (o : Option NodeInfo) → is_entity_info o ≡ true → is_some_info o ≡ true
      go o k = grind arith

  -- ---- links

  -- a link is made between open nodes
  record AreKnown (l : Link) : Type 0 where
    subject : is_entity_info (info_in (nodes_of day seen) l.subject) ≡ true
    party : is_some_info (info_in (nodes_of day seen) l.party) ≡ true

  ends_known : (r : Row) (l : Link) → link_in day (nodes_of day seen) r ≡ Some l → AreKnown l
  ends_known r l h = by (link_stated day (series_of r) r.statement.details) h
    where
      by : (o : Option Link) → between_open (nodes_of day seen) o ≡ Some l → AreKnown l
      by None e = absurd cc
      by (Some k) e =
          let subject = is_entity_info (info_in (nodes_of day seen) k.subject) in
          let party = is_some_info (info_in (nodes_of day seen) k.party) in
          let made = cond_some (subject && party) k l e in
          let both = and_parts subject party made.0 in
          subst (λ (z : Link). AreKnown z) made.1 (record { subject = both.0; party = both.1 })

  link_ends : (l : Link) → Contains (links_of day seen) l → AreKnown l
  link_ends l h = let m = links_of_rows day seen l h in ends_known m.row l m.made

  subject_open : (l : Link) → Contains (links_of day seen) l → IsOpen day seen l.subject
  subject_open l h = let k = link_ends l h in entity_open l.subject k.subject

  party_open : (l : Link) → Contains (links_of day seen) l → IsOpen day seen l.party
  party_open l h = let k = link_ends l h in known_open l.party k.party

  record_open : (l : Link) → Contains (links_of day seen) l → IsOpen day seen (link_record l)
  record_open l h = let m = links_of_rows day seen l h in (m.row, subst (λ (n : Node). open_at day n seen ≡ Some m.row) m.of_record (open_row_at day seen m.row m.is_open))

  -- a link of evidence is shown
  chain_shown : (a e : Node) (ls : List Link) (x : EvidenceLink) → IsChain (shown_of day seen) a ls e → IsLinkOf ls x → Contains (links_of day seen) x.link
  chain_shown a e [] x chain is = absurd is
  chain_shown a e (l ∷ []) x chain is = subst (λ (k : Link). Contains (links_of day seen) k) (sym (ap (λ (y : EvidenceLink). y.link) is)) chain.0
  chain_shown a e (l ∷ k ∷ ls) x chain is = elim is [
    | inl first ↦ subst (λ (j : Link). Contains (links_of day seen) j) (sym (ap (λ (y : EvidenceLink). y.link) first)) chain.0
    | inr later ↦ chain_shown k.party e (k ∷ ls) x chain.5 later
  ]

  tree_shown : (e : Node) (tree : Evidence) → AreEvidenced (shown_of day seen) e tree → (x : EvidenceLink) → Contains tree.links x → Contains (links_of day seen) x.link
  tree_shown e tree evidenced x h = let m = (evidenced.links x).0 h in chain_shown m.person e m.chain x (m.evidence).chain m.is_link

  -- ---- those by which entities are one

  steps_open : (a b : Node) (cs : List Node) → IsAliasPath (shown_of day seen) a cs b → (n : Node) → Contains cs n → IsOpen day seen n
  steps_open a b [] steps n h = absurd (none n h)
  steps_open a b (c ∷ cs) steps n h = elim (cases c cs n h) [
    | inl e ↦ subst (λ (m : Node). IsOpen day seen m) e (listed_open c (steps.0).two (steps.0).two_is)
    | inr later ↦ steps_open c b cs steps.1 n later
  ]

  way_open : (a b : Node) (way : List Node) → IsOpen day seen a → IsWay (shown_of day seen) a way b → (n : Node) → Contains way n → IsOpen day seen n
  way_open a b [] start is n h = absurd is
  way_open a b (c ∷ cs) start is n h = elim (cases c cs n h) [
    | inl e ↦ subst (λ (m : Node). IsOpen day seen m) (sym is.0 ∙ e) start
    | inr later ↦ steps_open a b cs is.1 n later
  ]

  bridge_open : (a b : Node) (same : List Node) → IsOpen day seen a → IsBridge (shown_of day seen) a b same → (n : Node) → Contains same n → IsOpen day seen n
  bridge_open a b same start is n h = go (same_node a b) is
    where
      go : (t : Bool) → MatchBool t (same ≡ []) (IsLeastWay (shown_of day seen) a same b) → IsOpen day seen n
      go true e = absurd (none n (subst (λ (ns : List Node). Contains ns n) e h))
      go false way = way_open a b same start way.is_way n h

  -- each that is told is of a link of the tree
  told_of : (e : Node) (xs : List EvidenceLink) (ts : List LinkEvidence) → AreLinkEvidence (shown_of day seen) e xs ts → (t : LinkEvidence) → Contains ts t → (x : EvidenceLink) × Contains xs x × IsLinkEvidence (shown_of day seen) e x t
  told_of e [] [] told t h = absurd (none t h)
  told_of e [] (u ∷ ts) told t h = absurd told
  told_of e (x ∷ xs) [] told t h = absurd told
  told_of e (x ∷ xs) (u ∷ ts) told t h = elim (cases u ts t h) [
    | inl is ↦ (x, here x xs, subst (λ (l : LinkEvidence). IsLinkEvidence (shown_of day seen) e x l) is told.0)
    | inr later ↦ let m = told_of e xs ts told.1 t later in (m.0, there x xs m.0 m.1, m.2)
  ]

  -- ---- what is mentioned

  mentioned_open : (entity : Node) (tree : Evidence) (links : List LinkEvidence) → is_entity_info (info_of (shown_of day seen) entity) ≡ true → AreEvidenced (shown_of day seen) entity tree
      → AreLinkEvidence (shown_of day seen) entity tree.links links → (n : Node) → IsMentioned entity tree links n → IsOpen day seen n
  mentioned_open entity tree links is_entity evidenced told n h = elim h [
    | as_entity is ↦ at entity is (entity_open entity is_entity)
    | as_person p on is ↦ at p.node is (known_open p.node (ap (λ (i : Option NodeInfo). is_some_info i) (evidenced.each p on).is_person))
    | as_link x on is ↦ at (link_record x.link) is (record_open x.link (tree_shown entity tree evidenced x on))
    | as_subject x on is ↦ at x.link.subject is (subject_open x.link (tree_shown entity tree evidenced x on))
    | as_party x on is ↦ at x.link.party is (party_open x.link (tree_shown entity tree evidenced x on))
    | as_same l on has ↦
        let m = told_of entity tree.links links told l on in
        bridge_open (m.0).link.subject (goal_of entity m.0) l.same (subject_open (m.0).link (tree_shown entity tree evidenced m.0 m.1)) (m.2).same n has
  ]
    where
      at : (m : Node) → n ≡ m → IsOpen day seen m → IsOpen day seen n
      at m is open_there = subst (λ (k : Node). IsOpen day seen k) (sym is) open_there

  -- ---- what they say

  record_is : (n : Node) (r : Row) → open_at day n seen ≡ Some r → record_node (record_evidence r) ≡ n
  record_is n r h = (open_at_in day n seen r h).1

  before : (n : Node) (ns : List Node) (r : Row) → open_at day n seen ≡ Some r → records_at day seen (n ∷ ns) ≡ record_evidence r ∷ records_at day seen ns
  before n ns r h = ap (λ (o : Option Row). record_before o (records_at day seen ns)) h

  -- those of open records are told one by one
  nodes_told : (ns : List Node) → ((n : Node) → Contains ns n → IsOpen day seen n) → map record_node (records_at day seen ns) ≡ ns
  nodes_told [] all = refl
  nodes_told (n ∷ ns) all =
      let o = all n (here n ns) in
      ap (λ (xs : List RecordEvidence). map record_node xs) (before n ns o.0 o.1)
      ∙ ap (λ (m : Node). m ∷ map record_node (records_at day seen ns)) (record_is n o.0 o.1)
      ∙ ap (λ (ms : List Node). n ∷ ms) (nodes_told ns (λ m h. all m (there n ns m h)))

  record IsToldOf (ns : List Node) (x : RecordEvidence) : Type 0 where
    node : Node
    row : Row
    on : Contains ns node
    open_there : open_at day node seen ≡ Some row
    says : x ≡ record_evidence row

  told_from : (ns : List Node) → ((n : Node) → Contains ns n → IsOpen day seen n) → (x : RecordEvidence) → Contains (records_at day seen ns) x → IsToldOf ns x
  told_from [] all x h = absurd (none x h)
  told_from (n ∷ ns) all x h =
      let o = all n (here n ns) in
      elim (cases (record_evidence o.0) (records_at day seen ns) x (subst (λ (xs : List RecordEvidence). Contains xs x) (before n ns o.0 o.1) h)) [
        | inl e ↦ record { node = n; row = o.0; on = here n ns; open_there = o.1; says = sym e }
        | inr later ↦
            let m = told_from ns (λ k j. all k (there n ns k j)) x later in
            record { node = m.node; row = m.row; on = there n ns m.node m.on; open_there = m.open_there; says = m.says }
      ]

  told_at : (ns : List Node) → ((n : Node) → Contains ns n → IsOpen day seen n) → (n : Node) (r : Row) → Contains ns n → open_at day n seen ≡ Some r → Contains (records_at day seen ns) (record_evidence r)
  told_at [] all n r h is = absurd (none n h)
  told_at (m ∷ ns) all n r h is =
      let o = all m (here m ns) in
      subst (λ (xs : List RecordEvidence). Contains xs (record_evidence r)) (sym (before m ns o.0 o.1)) (elim (cases m ns n h) [
        | inl e ↦
            let same = same_Some o.0 r (sym o.1 ∙ ap (λ (k : Node). open_at day k seen) e ∙ is) in
            subst (λ (q : Row). Contains (record_evidence o.0 ∷ records_at day seen ns) (record_evidence q)) same (here (record_evidence o.0) (records_at day seen ns))
        | inr later ↦ there (record_evidence o.0) (records_at day seen ns) (record_evidence r) (told_at ns (λ k j. all k (there m ns k j)) n r later is)
      ])

  -- what open records say, each of them once and in the order of a reply
  pub records_of : (P : Node → Type 0) (nodes : List Node) → ((n : Node) → P n → IsOpen day seen n) → ((n : Node) → Contains nodes n ↔ P n) → IsStrictlySortedBy reading_cmp nodes → AreRecords day seen P (records_at day seen nodes)
  records_of P nodes opens are in_order = record { each = each; every = every; sorted = sorted }
    where
      all : (n : Node) → Contains nodes n → IsOpen day seen n
      all n h = opens n ((are n).0 h)

      each : (x : RecordEvidence) → Contains (records_at day seen nodes) x → P (record_node x) × ((r : Row) × (open_at day (record_node x) seen ≡ Some r) × (x ≡ record_evidence r))
      each x h =
          let m = told_from nodes all x h in
          let is : m.node ≡ record_node x = sym (record_is m.node m.row m.open_there) ∙ ap record_node (sym m.says) in (
            subst P is ((are m.node).0 m.on),
            (m.row, subst (λ (n : Node). open_at day n seen ≡ Some m.row) is m.open_there, m.says),
          )

      every : (n : Node) → P n → (r : Row) × (open_at day n seen ≡ Some r) × Contains (records_at day seen nodes) (record_evidence r)
      every n h =
          let on = (are n).1 h in
          let o = all n on in
          (o.0, o.1, told_at nodes all n o.0 on o.1)

      sorted : IsStrictlySortedBy reading_cmp (map record_node (records_at day seen nodes))
      sorted = subst (λ (ns : List Node). IsStrictlySortedBy reading_cmp ns) (sym (nodes_told nodes all)) in_order

  -- what the mentioned records say is what stands under the evidence
  pub records_told : (entity : Node) (tree : Evidence) (links : List LinkEvidence) (nodes : List Node) → is_entity_info (info_of (shown_of day seen) entity) ≡ true → AreEvidenced (shown_of day seen) entity tree
      → AreLinkEvidence (shown_of day seen) entity tree.links links → AreMentioned entity tree links nodes → AreRecords day seen (IsMentioned entity tree links) (records_at day seen nodes)
  records_told entity tree links nodes is_entity evidenced told are =
      records_of (IsMentioned entity tree links) nodes (mentioned_open entity tree links is_entity evidenced told) are.each are.sorted

  -- an entity that has an identifier is open
  pub identified_open : (i : Identifier) (n : Node) → Identified (shown_of day seen) i n → IsOpen day seen n
  identified_open i n h =
      let f = Contains-from_filter_map node_in (open_rows day seen) h.0 h.1 in
      (f.0, subst (λ (m : Node). open_at day m seen ≡ Some f.0) (sym (node_of f.0 h.0 f.2) ∙ h.2) (open_row_at day seen f.0 f.1))

  -- ---- one list of records

  reading_total : IsTotalOrder reading_cmp
  reading_total = then_total (on_total (λ (n : Node). n.agent) nat_list_cmp_total) (then_total (on_total (λ (n : Node). n.declaration) nat_list_cmp_total) (on_total (λ (n : Node). n.rec) nat_list_cmp_total))

  -- a record of one list is one of the other
  has_node : (P : Node → Type 0) (xs ys : List RecordEvidence) → AreRecords day seen P xs → AreRecords day seen P ys → (n : Node) → Contains (map record_node xs) n → Contains (map record_node ys) n
  has_node P xs ys a b n h =
      let f = Contains-from_map record_node xs n h in
      let m = b.every n (subst P f.2 (a.each f.0 f.1).0) in
      subst (λ (k : Node). Contains (map record_node ys) k) (record_is n m.0 m.1) (Contains-map record_node ys (record_evidence m.0) m.2)

  -- records are told by whose they are
  record Says (x : RecordEvidence) : Type 0 where
    row : Row
    open_there : open_at day (record_node x) seen ≡ Some row
    says : x ≡ record_evidence row

  by_nodes : (xs : List RecordEvidence) → ((x : RecordEvidence) → Contains xs x → Says x) → xs ≡ records_at day seen (map record_node xs)
  by_nodes [] all = refl
  by_nodes (x ∷ xs) all =
      let o = all x (here x xs) in
      ap (λ (ys : List RecordEvidence). x ∷ ys) (by_nodes xs (λ y h. all y (there x xs y h)))
      ∙ ap (λ (y : RecordEvidence). y ∷ records_at day seen (map record_node xs)) o.says
      ∙ sym (before (record_node x) (map record_node xs) o.row o.open_there)

  says_of : (P : Node → Type 0) (xs : List RecordEvidence) → AreRecords day seen P xs → (x : RecordEvidence) → Contains xs x → Says x
  says_of P xs a x h = let m = (a.each x h).1 in record { row = m.0; open_there = m.1; says = m.2 }

  pub one_records : (P : Node → Type 0) (xs ys : List RecordEvidence) → AreRecords day seen P xs → AreRecords day seen P ys → xs ≡ ys
  one_records P xs ys a b =
      by_nodes xs (says_of P xs a)
      ∙ ap (λ (ns : List Node). records_at day seen ns)
      (one_sorted reading_cmp reading_total (map record_node xs) (map record_node ys) a.sorted b.sorted (has_node P xs ys a b) (has_node P ys xs b a))
      ∙ sym (by_nodes ys (says_of P ys b))

-- ---- the statements of records on a day, one after the other, by rows with the numbers of their filings

found_seen : (n : Node) (rows : List Row) → find (is_of n) (map unnumbered rows) ≡ option_map unnumbered (find (is_of n) rows)
found_seen n [] = refl
found_seen n (r ∷ rows) = grind (arith, found_seen n rows)

open_at_seen : (day : ℤ) (n : Node) (rows : List Row) → open_at day n (map unnumbered rows) ≡ option_map unnumbered (open_at day n rows)
open_at_seen day n rows =
    sym (open_are_latest day n (map unnumbered rows)) ∙ ap (λ (rs : List Row). find (is_of n) rs) (open_seen day rows) ∙ found_seen n (open_rows day rows)
    ∙ ap (λ (o : Option Row). option_map unnumbered o) (open_are_latest day n rows)

-- the number of its filing is no part of what a record says
said_alike : (o : Option Row) (xs : List RecordEvidence) → record_before (option_map unnumbered o) xs ≡ record_before o xs
said_alike o xs = grind arith

before-append : (o : Option Row) (xs ys : List RecordEvidence) → record_before o (xs ++ ys) ≡ record_before o xs ++ ys
before-append o xs ys = grind arith

records-push : (day : ℤ) (rows : List Row) (ns : List Node) (n : Node) → records_at day rows (ns ++ n ∷ []) ≡ records_at day rows ns ++ record_before (open_at day n rows) []
records-push day rows [] n = refl
records-push day rows (m ∷ ns) n = ap (λ (xs : List RecordEvidence). record_before (open_at day m rows) xs) (records-push day rows ns n) ∙ before-append (open_at day m rows) (records_at day rows ns) (record_before (open_at day n rows) [])

-- ---- one record more

-- the list that is now told has what the record says, if it is open, and room for as many
pub record IsTold (o : Option Row) (was now : Vec RecordEvidence Global) : Type 0 where
  pub said : now.items ≡ was.items ++ record_before o []
  pub few : length now.items ≤ length was.items + 1
  pub room : vec_capacity now ≡ vec_capacity was

pub told_open : (o : Option Row) (r : Row) (x : RecordEvidence) (was pushed now : Vec RecordEvidence Global) → o ≡ Some r → x ≡ record_evidence r → pushed.items ≡ was.items ++ x ∷ [] → vec_capacity pushed ≡ vec_capacity was → now ≡ pushed → IsTold o was now
told_open o r x was pushed now is says more room same = subst (λ (v : Vec RecordEvidence Global). IsTold o was v) (sym same) (record {
  said = more ∙ ap (λ (y : RecordEvidence). was.items ++ y ∷ []) says ∙ ap (λ (p : Option Row). was.items ++ record_before p []) (sym is);
  few = let e = ap (λ (xs : List RecordEvidence). length xs) more in omega (arith, length-append was.items (x ∷ []));
  room = room;
})

pub told_closed : (o : Option Row) (was now : Vec RecordEvidence Global) → o ≡ None → now ≡ was → IsTold o was now
told_closed o was now is same = subst (λ (v : Vec RecordEvidence Global). IsTold o was v) (sym same) (record {
  said = sym (append-nil was.items) ∙ ap (λ (p : Option Row). was.items ++ record_before p []) (sym is);
  few = omega arith;
  room = refl;
})

-- so it goes on with the list of nodes
pub records_more : (day : ℤ) (rows : List Row) (ns : List Node) (i : ℕ) (n : Node) (o : Option Row) (was now : Vec RecordEvidence Global) → i < length ns → n ≡ get_or ns i n → o ≡ open_at day n rows → was.items ≡ records_at day (map unnumbered rows) (take i ns)
    → IsTold o was now → now.items ≡ records_at day (map unnumbered rows) (take (i + 1) ns)
records_more day rows ns i n o was now lt is shown so_far told =
    told.said
    ∙ ap (λ (xs : List RecordEvidence). xs ++ record_before o []) so_far
    ∙ ap (λ (xs : List RecordEvidence). records_at day (map unnumbered rows) (take i ns) ++ xs)
    (ap (λ (p : Option Row). record_before p []) shown ∙ sym (said_alike (open_at day n rows) []) ∙ ap (λ (p : Option Row). record_before p []) (sym (open_at_seen day n rows)))
    ∙ sym (records-push day (map unnumbered rows) (take i ns) n)
    ∙ ap (λ (ms : List Node). records_at day (map unnumbered rows) ms) (ap (λ (m : Node). take i ns ++ m ∷ []) is ∙ sym (take_more ns i n lt))

-- ---- each link's subject is one with where the link leads

chain_linked : (s : Shown) (a e : Node) (ls : List Link) (x : EvidenceLink) → IsChain s a ls e → IsLinkOf ls x → Same s x.link.subject (goal_of e x)
chain_linked s a e [] x chain h = absurd h
chain_linked s a e (l ∷ []) x chain h = subst (λ (y : EvidenceLink). Same s y.link.subject (goal_of e y)) (sym h) chain.3
chain_linked s a e (l ∷ k ∷ ls) x chain (inl h) = subst (λ (y : EvidenceLink). Same s y.link.subject (goal_of e y)) (sym h) chain.3
chain_linked s a e (l ∷ k ∷ ls) x chain (inr h) = chain_linked s k.party e (k ∷ ls) x chain.5 h

pub linked : (s : Shown) (e : Node) (tree : Evidence) → AreEvidenced s e tree → AreLinked s e tree.links
linked s e tree evidenced x on = let o = (evidenced.links x).0 on in chain_linked s o.person e o.chain x o.evidence.chain o.is_link

-- ---- one more link

told_more : (s : Shown) (e : Node) (xs : List EvidenceLink) (ts : List LinkEvidence) (x : EvidenceLink) (t : LinkEvidence) → AreLinkEvidence s e xs ts → IsLinkEvidence s e x t → AreLinkEvidence s e (xs ++ x ∷ []) (ts ++ t ∷ [])
told_more s e [] [] x t h k = (k, tt)
told_more s e [] (u ∷ us) x t h k = absurd h
told_more s e (y ∷ ys) [] x t h k = absurd h
told_more s e (y ∷ ys) (u ∷ us) x t h k = (h.0, told_more s e ys us x t h.1 k)

pub links_more : (s : Shown) (e : Node) (all : List EvidenceLink) (i : ℕ) (told now : List LinkEvidence) (x : EvidenceLink) (t : LinkEvidence) → take (i + 1) all ≡ take i all ++ x ∷ [] → now ≡ told ++ t ∷ []
    → AreLinkEvidence s e (take i all) told → IsLinkEvidence s e x t → AreLinkEvidence s e (take (i + 1) all) now
links_more s e all i told now x t more is h k =
    subst (λ (xs : List EvidenceLink). AreLinkEvidence s e xs now) (sym more)
    (subst (λ (ts : List LinkEvidence). AreLinkEvidence s e (take i all ++ x ∷ []) ts) (sym is) (told_more s e (take i all) told x t h k))

-- ---- the evidence as a whole

is_entity : (entity : Node) (day : ℤ) (shown : Shown) (b : Bool) → cond b (report entity day shown) (refused NoEntity) ≡ report entity day shown → b ≡ true
is_entity entity day shown true h = refl
is_entity entity day shown false h = absurd cc

-- what was found is the answer to why persons are named
pub evidence_found : (seen : List Row) (entity : Node) (day : ℤ) (tree : Evidence) (lines : List LinkEvidence) (nodes : List Node) (told : EntityEvidence) → IsTreeFound (Ok tree) (shown_of day seen) entity day
    → (AreLinked (shown_of day seen) entity tree.links → AreLinkEvidence (shown_of day seen) entity tree.links lines) → AreMentioned entity tree lines nodes
    → told.persons ≡ map person_evidence tree.persons → told.links ≡ lines → told.records ≡ records_at day seen nodes → IsEvidenceFound (Ok told) seen entity day
evidence_found seen entity day tree lines nodes told found links mentioned persons are_lines records =
    let there = is_entity entity day (shown_of day seen) (is_entity_info (info_of (shown_of day seen) entity)) found.0 in
    let are = links (linked (shown_of day seen) entity tree found.1) in (
      ap (λ (b : Bool). cond b (evidence entity day seen) (refused NoEntity)) there,
      record {
        tree = tree;
        evidenced = found.1;
        persons = persons;
        links = subst (λ (ls : List LinkEvidence). AreLinkEvidence (shown_of day seen) entity tree.links ls) (sym are_lines) are;
        records = subst (λ (ls : List LinkEvidence). AreRecords day seen (IsMentioned entity tree ls) told.records) (sym are_lines)
            (subst (λ (rs : List RecordEvidence). AreRecords day seen (IsMentioned entity tree lines) rs) (sym records) (records_told day seen entity tree lines nodes there found.1 are mentioned));
      },
    )
