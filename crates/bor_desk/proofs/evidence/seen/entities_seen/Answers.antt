use Rattle.std.proofs.Common.{◌↔◌, ◌∙◌, List, Contains, ap, subst, sym}
use Rattle.bor_records.specs.declared.links.node.Node.{Node}
use Rattle.bor_records.specs.Links.Answers.{AreIdentified, Identified}
use Rattle.bor_records.specs.Links.Rows.{shown_of}
use Rattle.bor_records.specs.Links.Shown.{Shown}
use Rattle.bor_desk.specs.declared.evidence.lines.RecordEvidence.{RecordEvidence}
use Rattle.bor_desk.specs.Evidence.{AreRecords}
use Rattle.bor_desk.specs.Mentioned.{records_at}
use Rattle.bor_desk.specs.Operations.Sight.{seen_by}
use Rattle.bor_desk.proofs.OnEvidence.Mentions.{identified_open, records_of}
use Rattle.bor_register.proofs.OnMemory.Told.{told_then}
use Rattle.bor_desk.proofs.OnOperations.SeenLinks.{numbers_make_no_links}
use Rattle.bor_desk.proofs.evidence.seen.entities_seen.Goals as goal

pub returns-clause-answer : goal.returns-clause-answer
returns-clause-answer g c = λ r is clean.
    let viewer = c.args.viewer.now in
    let day = c.args.day in
    let i = c.args.identifier.now in
    let seen = seen_by viewer r in
    let nodes = c.in_ok-nodes.nodes.items in
    let found = c.in_ok-found.found.items in
    let read = c.records_seen.ensures in
    let asked = c.identified.ensures in
    let began = read.kept.began clean in
    let are : AreIdentified (shown_of day seen) i found =
    subst (λ (s : Shown). AreIdentified s i found) (sym (numbers_make_no_links day viewer r)) (c.in_ok-found.ensures.answer r is began) in
    let order = c.in_ok-nodes.ensures in
    let each : (n : Node) → Contains nodes n ↔ Identified (shown_of day seen) i n = λ n.
    ((λ h. (are.each n).0 ((order.each n).0 h)), (λ h. (order.each n).1 ((are.each n).1 h))) in
    told_then c.records_seen.result _ _
    (λ records h. subst (λ (xs : List RecordEvidence). AreRecords day seen (Identified (shown_of day seen) i) xs) (sym (h ∙ ap (λ (ns : List Node). records_at day seen ns) c.deref.ensures.value))
    (records_of day seen (Identified (shown_of day seen) i) nodes (identified_open day seen i) each order.sorted))
    (read.answer r ((asked.kept.same began r).0 is) clean)
