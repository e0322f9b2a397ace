-- The evidence of an entity is one, and names the persons joined.
use Rattle.std.proofs.Common.{◌≡◌, ℤ, Bool, true, false, List, [], ◌∷◌, map, length, refl, sym, ap, ◌∙◌, subst, arith}
use Rattle.std.specs.Prelude.{if◌then◌else◌, MatchBool}
use Rattle.std.specs.declared.cmp.Ordering.{Ordering}
use Rattle.std.specs.declared.cmp.Ordering.TheVariants.{Equal}
use Rattle.std.specs.Ordering.{nat_cmp, ordering_reverse, is_le}
use Rattle.std.specs.Cmp.Lexicographic.{slice_cmp}
use Rattle.std.specs.FinMap.{slice_cmp-IsAntisymmetric}
use Rattle.bor_records.specs.declared.row.Row.{Row}
use Rattle.bor_records.specs.declared.links.node.Node.{Node}
use Rattle.bor_records.specs.Links.Nodes.{node_cmp, same_node}
use Rattle.bor_records.specs.Links.Shown.{Shown, info_of}
use Rattle.bor_records.specs.Links.Rows.{is_entity_info, shown_of}
use Rattle.bor_records.proofs.OnLinks.Exact.{parts, exact_node}
use Rattle.bor_chains.specs.declared.line.PersonLine.{PersonLine}
use Rattle.bor_chains.specs.declared.tree.Evidence.{Evidence}
use Rattle.bor_chains.specs.declared.tree.EvidenceLink.{EvidenceLink}
use Rattle.bor_chains.specs.declared.tree.EvidencePerson.{EvidencePerson}
use Rattle.bor_chains.specs.Chains.{AreJoined}
use Rattle.bor_chains.specs.Evidence.{without_chain}
use Rattle.bor_chains.proofs.OneEvidence.{evidence_is_determined, evidence_names_the_joined}
use Rattle.bor_desk.specs.declared.evidence.lines.EntityEvidence.{EntityEvidence}
use Rattle.bor_desk.specs.declared.evidence.lines.LinkEvidence.{LinkEvidence}
use Rattle.bor_desk.specs.declared.evidence.lines.PersonEvidence.{PersonEvidence}
use Rattle.bor_desk.specs.declared.reply.DeskReply.TheVariants as tell
use Rattle.bor_desk.specs.declared.refusal.Refusal.TheVariants.{NoEntity}
use Rattle.bor_desk.specs.Evidence.{way_cmp, IsLeastWay, IsBridge, person_evidence, without_first, goal_of, IsLinkEvidence, AreLinkEvidence, IsMentioned, AreRecords, IsEntityEvidence}
use Rattle.bor_desk.specs.Step.{report, evidence, refused, chains_answer, evidence_answer}
use Rattle.bor_desk.specs.Outcomes.{IsTold}
use Rattle.bor_desk.specs.Laws.{AnsweredEvidenceNamesTheJoined}
use Rattle.bor_desk.proofs.OnEvidence.Ways.{way_total}
use Rattle.bor_desk.proofs.OnEvidence.Mentions.{one_records}

-- ---- one least way

tied : (o p : Ordering) → o ≡ ordering_reverse p → is_le o ≡ true → is_le p ≡ true → o ≡ Equal
tied o p e f g = grind arith

one_way : (s : Shown) (a b : Node) (cs ds : List Node) → IsLeastWay s a cs b → IsLeastWay s a ds b → cs ≡ ds
one_way s a b cs ds h j =
    let same = tied (way_cmp cs ds) (way_cmp ds cs) (way_total.antisymm cs ds) (h.least ds j.is_way) (j.least cs h.is_way) in
    slice_cmp-IsAntisymmetric exact_node cs ds (parts (nat_cmp (length cs) (length ds)) (slice_cmp node_cmp cs ds) same).1

one_bridge : (s : Shown) (a b : Node) (cs ds : List Node) → IsBridge s a b cs → IsBridge s a b ds → cs ≡ ds
one_bridge s a b cs ds h j = at (same_node a b) h j
  where
    at : (same : Bool) → MatchBool same (cs ≡ []) (IsLeastWay s a cs b) → MatchBool same (ds ≡ []) (IsLeastWay s a ds b) → cs ≡ ds
    at same h j = grind (arith, one_way s a b cs ds)

-- ---- the lines of links

link_is : (t u : LinkEvidence) → t.node ≡ u.node → t.next ≡ u.next → t.same ≡ u.same → t ≡ u
link_is t u p q r = grind arith

one_line : (s : Shown) (entity : Node) (x : EvidenceLink) (t u : LinkEvidence) → IsLinkEvidence s entity x t → IsLinkEvidence s entity x u → t ≡ u
one_line s entity x t u h j =
    link_is t u (h.node ∙ sym j.node) (h.next ∙ sym j.next) (one_bridge s x.link.subject (goal_of entity x) t.same u.same h.same j.same)

one_lines : (s : Shown) (entity : Node) (xs : List EvidenceLink) (ts us : List LinkEvidence) → AreLinkEvidence s entity xs ts → AreLinkEvidence s entity xs us → ts ≡ us
one_lines s entity [] [] [] h j = refl
one_lines s entity [] [] (u ∷ us) h j = absurd j
one_lines s entity [] (t ∷ ts) us h j = absurd h
one_lines s entity (x ∷ xs) [] us h j = absurd h
one_lines s entity (x ∷ xs) (t ∷ ts) [] h j = absurd j
one_lines s entity (x ∷ xs) (t ∷ ts) (u ∷ us) h j =
    ap (λ (l : LinkEvidence). l ∷ ts) (one_line s entity x t u h.0 j.0) ∙ ap (λ (ls : List LinkEvidence). u ∷ ls) (one_lines s entity xs ts us h.1 j.1)

-- ---- the evidence

evidence_is : (x y : EntityEvidence) → x.persons ≡ y.persons → x.links ≡ y.links → x.records ≡ y.records → x ≡ y
evidence_is x y p q r = grind arith

pub one_evidence : (seen : List Row) (entity : Node) (day : ℤ) (x y : EntityEvidence) → IsEntityEvidence seen entity day x → IsEntityEvidence seen entity day y → x ≡ y
one_evidence seen entity day x y a b = evidence_is x y persons links (one_records day seen (IsMentioned entity b.tree y.links) x.records y.records records b.records)
  where
    tree : a.tree ≡ b.tree
    tree = evidence_is_determined (shown_of day seen) entity a.tree b.tree a.evidenced b.evidenced

    persons : x.persons ≡ y.persons
    persons = a.persons ∙ ap (λ (t : Evidence). map person_evidence t.persons) tree ∙ sym b.persons

    links : x.links ≡ y.links
    links = one_lines (shown_of day seen) entity b.tree.links x.links y.links (subst (λ (t : Evidence). AreLinkEvidence (shown_of day seen) entity t.links x.links) tree a.links) b.links

    records : AreRecords day seen (IsMentioned entity b.tree y.links) x.records
    records =
        subst (λ (ls : List LinkEvidence). AreRecords day seen (IsMentioned entity b.tree ls) x.records) links
        (subst (λ (t : Evidence). AreRecords day seen (IsMentioned entity t x.links) x.records) tree a.records)

-- ---- without the first links

without_both : (ps : List EvidencePerson) → map without_first (map person_evidence ps) ≡ map without_chain ps
without_both [] = refl
without_both (p ∷ ps) = ap (λ (ls : List PersonLine). without_chain p ∷ ls) (without_both ps)

joined : (seen : List Row) (entity : Node) (day : ℤ) (told : EntityEvidence) → IsEntityEvidence seen entity day told → AreJoined (shown_of day seen) entity (map without_first told.persons)
joined seen entity day told a =
    subst (λ (ls : List PersonLine). AreJoined (shown_of day seen) entity ls) (sym (ap (λ (ps : List PersonEvidence). map without_first ps) a.persons ∙ without_both a.tree.persons))
    (evidence_names_the_joined (shown_of day seen) entity a.tree a.evidenced)

reported : (seen : List Row) (entity : Node) (day : ℤ) (told : EntityEvidence) → IsTold (evidence_answer seen entity day) (tell.Evidence entity day told) →
    IsTold (chains_answer seen entity day) (tell.Chains entity day (map without_first told.persons))
reported seen entity day told h = at (is_entity_info (info_of (shown_of day seen) entity)) h
  where
    at : (is_open : Bool) → IsTold (if is_open then evidence entity day seen else refused NoEntity) (tell.Evidence entity day told) →
        IsTold (if is_open then report entity day (shown_of day seen) else refused NoEntity) (tell.Chains entity day (map without_first told.persons))
    at true h = let same : told ≡ h.0 = cc in (map without_first told.persons, joined seen entity day told (subst (λ (t : EntityEvidence). IsEntityEvidence seen entity day t) (sym same) h.1), refl)
    at false h = absurd cc

pub names_the_joined : AnsweredEvidenceNamesTheJoined
names_the_joined = record { joined = joined; reported = reported }
