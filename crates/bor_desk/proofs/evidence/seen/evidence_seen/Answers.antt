use Rattle.std.proofs.Common.{◌∙◌, List, map, refl, sym, ap, subst}
use Rattle.bor_records.specs.Links.Shown.{Shown}
use Rattle.bor_register.specs.Seen.{seen_at}
use Rattle.bor_chains.specs.declared.tree.EvidenceLink.{EvidenceLink}
use Rattle.bor_chains.specs.declared.tree.EvidencePerson.{EvidencePerson}
use Rattle.bor_desk.specs.declared.evidence.lines.LinkEvidence.{LinkEvidence}
use Rattle.bor_desk.specs.Evidence.{AreLinkEvidence, person_evidence}
use Rattle.bor_desk.specs.Mentioned.{AreMentioned}
use Rattle.bor_desk.specs.Operations.Sight.{seen_by}
use Rattle.bor_desk.specs.Ways.{AreLinked}
use Rattle.bor_desk.proofs.OnEvidence.Mentions.{evidence_found}
use Rattle.bor_desk.proofs.OnOperations.SeenLinks.{numbers_make_no_links}
use Rattle.bor_records.proofs.KeptLaws.{kept_then, lasts_then}
use Rattle.bor_desk.specs.Refusals.{failed}
use Rattle.bor_desk.proofs.OnOperations.Stops.{stops_later}
use Rattle.bor_desk.proofs.evidence.seen.evidence_seen.Goals as goal

pub returns-clause-answer : goal.returns-clause-answer
returns-clause-answer g c = λ r is clean.
    let viewer = c.args.viewer.now in
    let day = c.args.day in
    let entity = c.args.entity.now in
    let tree = c.in_ok-tree.tree in
    let lines = c.in_ok-links.links.items in
    let linked = c.in_ok-links.ensures in
    let read = c.in_ok-records.ensures in
    let began_records = read.kept.began clean in
    let began_links = linked.kept.began began_records in
    let is_links = (c.in_ok-tree.ensures.kept.same began_links r).0 is in
    let is_records = (linked.kept.same began_records r).0 is_links in
    let said = read.answer r is_records clean in
    evidence_found (seen_by viewer r) entity day tree lines said.0 record { persons = c.new.result; links = c.new-2.result; records = c.new-3.result }
    (c.in_ok-tree.ensures.answer r is began_links)
    (subst (λ (s : Shown). AreLinked s entity tree.links → AreLinkEvidence s entity tree.links lines) (sym (numbers_make_no_links day viewer r))
    (subst (λ (xs : List EvidenceLink). AreLinked (seen_at viewer day r) entity xs → AreLinkEvidence (seen_at viewer day r) entity xs lines) c.as_slice.ensures (linked.answer r is_links began_records)))
    (subst (λ (ls : List LinkEvidence). AreMentioned entity tree ls said.0) c.deref.ensures.value said.1)
    (c.new.ensures ∙ c.in_ok-persons.ensures ∙ ap (λ (ps : List EvidencePerson). map person_evidence ps) c.into_vec.ensures)
    c.new-2.ensures
    (c.new-3.ensures ∙ said.2)

pub returns-in_err-links-clause-accounted : goal.returns-in_err-links-clause-accounted
returns-in_err-links-clause-accounted g c =
    let tree = c.in_ok-tree.ensures in
    stops_later g.K.Keep.meaning failed _ _ _ c.from_residual-in_err-links.result tree.kept tree.accounted.counted tree.accounted.lasts c.in_err-links.ensures.kept.began c.from_residual-in_err-links.ensures.1 refl c.in_err-links.ensures.accounted

pub returns-in_err-records-clause-accounted : goal.returns-in_err-records-clause-accounted
returns-in_err-records-clause-accounted g c =
    let meaning = g.K.Keep.meaning in
    let tree = c.in_ok-tree.ensures in
    let links = c.in_ok-links.ensures in
    stops_later meaning failed _ _ _ c.from_residual-in_err-records.result (kept_then meaning _ _ _ tree.kept links.kept) (links.accounted.counted ∙ tree.accounted.counted)
    (lasts_then meaning _ _ _ tree.accounted.lasts links.accounted.lasts) c.in_err-records.ensures.kept.began c.from_residual-in_err-records.ensures.1 refl c.in_err-records.ensures.accounted
