use Rattle.std.proofs.Common.{◌≡◌, List, ap, map, subst}
use Rattle.std.specs.List.Sorted.{IsStrictlySortedBy}
use Rattle.bor_chains.specs.declared.tree.EvidenceLink.{EvidenceLink}
use Rattle.bor_chains.specs.declared.tree.EvidencePerson.{EvidencePerson}
use Rattle.bor_chains.specs.Lines.{reading_cmp}
use Rattle.bor_desk.specs.declared.evidence.keys.Key.{Key}
use Rattle.bor_desk.specs.Mentioned.{AreMentioned, IsGained, IsOfAny, IsOfLink, node_of, nodes_in}
use Rattle.bor_desk.proofs.OnEvidence.Keyed.{all_mentioned, both_so, mentioned_are}
use Rattle.bor_desk.proofs.evidence.keys.records_in.Goals as goal

pub returns : goal.returns
returns c =
    let first = nodes_in c.add_copy.new.keys in
    let second = nodes_in c.add_persons.new.keys in
    let third = nodes_in c.add_links.new.keys in
    let last = nodes_in c.add_sames.new.keys in
    let persons = subst (λ (ps : List EvidencePerson). IsGained (IsOfAny ps (λ person n. n ≡ person.node)) first second) c.as_slice.ensures c.in_ok-add_persons.ensures in
    let links = subst (λ (ls : List EvidenceLink). IsGained (IsOfAny ls IsOfLink) second third) c.as_slice-2.ensures c.in_ok-add_links.ensures in
    let each =
    all_mentioned c.args.entity.now c.args.tree.now c.args.links.now (nodes_in c.new-keys.result) first second third last (ap (λ (ks : List Key). map node_of ks) c.new-keys.ensures.empty) c.in_ok-add_copy.ensures persons links c.in_ok-add_sames.ensures in
    both_so c.nodes_of.result (λ nodes. nodes.items ≡ last) (λ nodes. IsStrictlySortedBy reading_cmp nodes.items) (λ nodes. AreMentioned c.args.entity.now c.args.tree.now c.args.links.now nodes.items)
    (λ nodes. mentioned_are c.args.entity.now c.args.tree.now c.args.links.now last each nodes.items)
    c.nodes_of.ensures.same c.nodes_of.ensures.sorted
