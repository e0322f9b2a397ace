-- The lines of a report and the links of its evidence: when two are one, and their order with its
-- laws.
use Rattle.std.specs.Prelude.{◌≡◌, ◌&&◌, Bool, refl}
use Rattle.std.specs.Ordering.{ordering_then, is_eq, eq_by_cmp}
use Rattle.std.specs.declared.cmp.Ordering.{Ordering}
use Rattle.std.specs.declared.cmp.Ordering.TheVariants.{Less, Equal, Greater}
use Rattle.std.specs.Cmp.{IsTotalOrder, IsEquivalence, IsPartialOrder, partial_order_from_total}
use Rattle.std.specs.Cmp.{on_total, then_total, on_equiv, bool_cmp_total}
use Rattle.std.specs.Cmp.Lexicographic.{nat_list_cmp_total, texts_ties}
use Rattle.std.proofs.Common.{◌∙◌, sym, subst, Some}
use Rattle.std.proofs.lemmas.Cmp.{eq_by_cmp_equiv}
use Rattle.bor_records.specs.declared.links.node.Node.{Node}
use Rattle.bor_records.specs.declared.links.node.Link.{Link}
use Rattle.bor_records.specs.Links.Nodes.{same_node, text_cmp, link_record, link_cmp}
use Rattle.bor_records.specs.Links.Orders.{node_equiv, node_total, all_three}
use Rattle.bor_chains.specs.declared.line.PersonLine.{PersonLine}
use Rattle.bor_chains.specs.declared.tree.EvidenceLink.{EvidenceLink}
use Rattle.bor_chains.specs.declared.tree.EvidencePerson.{EvidencePerson}

-- nodes as a reader looks for them: by agent, then declaration, then record
abbrev pub reading_cmp : Node → Node → Ordering
reading_cmp x y =
    ordering_then (text_cmp x.agent y.agent)
    (ordering_then (text_cmp x.declaration y.declaration) (text_cmp x.rec y.rec))

reading_total : IsTotalOrder reading_cmp
reading_total =
    then_total (on_total (λ (n : Node). n.agent) nat_list_cmp_total)
    (then_total (on_total (λ (n : Node). n.declaration) nat_list_cmp_total)
    (on_total (λ (n : Node). n.rec) nat_list_cmp_total))

three : (a d r : Ordering)
    → (is_eq a && (is_eq d && is_eq r)) ≡ is_eq (ordering_then a (ordering_then d r))
three Less d r = refl
three Greater d r = refl
three Equal Less r = refl
three Equal Greater r = refl
three Equal Equal r = refl

reading_ties : (x y : Node) → same_node x y ≡ eq_by_cmp reading_cmp x y
reading_ties x y =
    all_three _ _ _ _ _ _ (texts_ties x.agent y.agent) (texts_ties x.declaration y.declaration)
    (texts_ties x.rec y.rec)
    ∙ three (text_cmp x.agent y.agent) (text_cmp x.declaration y.declaration) (text_cmp x.rec y.rec)

-- ---- lines of persons

-- a line stands where its node does
abbrev pub same_line : PersonLine → PersonLine → Bool
same_line x y = same_node x.node y.node

abbrev pub line_cmp : PersonLine → PersonLine → Ordering
line_cmp x y = reading_cmp x.node y.node

pub line_equiv : IsEquivalence same_line
line_equiv = on_equiv (λ (l : PersonLine). l.node) node_equiv

pub line_total : IsTotalOrder line_cmp
line_total = on_total (λ (l : PersonLine). l.node) reading_total

pub line_ties : (x y : PersonLine) → same_line x y ≡ eq_by_cmp line_cmp x y
line_ties x y = reading_ties x.node y.node

pub line_po : IsPartialOrder same_line (λ x y. Some (line_cmp x y))
line_po =
    subst
    (λ (same : PersonLine → PersonLine → Bool). IsPartialOrder same (λ x y. Some (line_cmp x y)))
    (λ i x y. sym (line_ties x y) i) (partial_order_from_total line_total)

-- ---- persons with evidence

abbrev pub same_evidence : EvidencePerson → EvidencePerson → Bool
same_evidence x y = same_node x.node y.node

abbrev pub evidence_cmp : EvidencePerson → EvidencePerson → Ordering
evidence_cmp x y = reading_cmp x.node y.node

pub evidence_equiv : IsEquivalence same_evidence
evidence_equiv = on_equiv (λ (p : EvidencePerson). p.node) node_equiv

pub evidence_total : IsTotalOrder evidence_cmp
evidence_total = on_total (λ (p : EvidencePerson). p.node) reading_total

pub evidence_ties : (x y : EvidencePerson) → same_evidence x y ≡ eq_by_cmp evidence_cmp x y
evidence_ties x y = reading_ties x.node y.node

pub evidence_po : IsPartialOrder same_evidence (λ x y. Some (evidence_cmp x y))
evidence_po =
    subst (λ (same : EvidencePerson → EvidencePerson → Bool). IsPartialOrder same
    (λ x y. Some (evidence_cmp x y))) (λ i x y. sym (evidence_ties x y) i)
    (partial_order_from_total evidence_total)

-- ---- links of a tree

pub link_total : IsTotalOrder link_cmp
link_total =
    then_total (on_total (λ (l : Link). l.rec) nat_list_cmp_total)
    (then_total (on_total (λ (l : Link). l.subject) node_total)
    (then_total (on_total (λ (l : Link). l.party) node_total) (then_total (on_total
    (λ (l : Link). l.stake) bool_cmp_total) (on_total (λ (l : Link). l.holding) bool_cmp_total))))

-- by the agent, declaration and record of the link's record; only over a source with several links
-- of one record the rest decides
abbrev pub tree_cmp : EvidenceLink → EvidenceLink → Ordering
tree_cmp x y =
    ordering_then (reading_cmp (link_record x.link) (link_record y.link)) (link_cmp x.link y.link)

pub tree_total : IsTotalOrder tree_cmp
tree_total =
    then_total (on_total (λ (x : EvidenceLink). link_record x.link) reading_total)
    (on_total (λ (x : EvidenceLink). x.link) link_total)

-- a link stands once, whatever follows it
abbrev pub same_in_tree : EvidenceLink → EvidenceLink → Bool
same_in_tree x y = eq_by_cmp tree_cmp x y

pub tree_equiv : IsEquivalence same_in_tree
tree_equiv = eq_by_cmp_equiv tree_total

pub tree_po : IsPartialOrder same_in_tree (λ x y. Some (tree_cmp x y))
tree_po = partial_order_from_total tree_total
