use Rattle.std.proofs.Common.{◌≡◌, ◌∙◌, List, ap}
use Rattle.std.proofs.lemmas.Result.{IfOk-weaker}
use Rattle.bor_records.specs.declared.links.node.Node.{Node}
use Rattle.bor_desk.specs.Mentioned.{AreMentioned, records_at}
use Rattle.bor_desk.specs.Operations.Sight.{seen_by}
use Rattle.bor_desk.proofs.evidence.seen.records_told.Goals as goal

pub returns-clause-answer : goal.returns-clause-answer
returns-clause-answer g c = λ r is clean.
    let told = λ (ns : List Node). records_at c.args.day (seen_by c.args.viewer.now r) ns in
    IfOk-weaker c.records_seen.result (λ records. records.items ≡ told c.deref.result.now)
    (λ records. (nodes : List Node) × AreMentioned c.args.entity.now c.args.tree.now c.args.links.now nodes × (records.items ≡ told nodes))
    (λ records is. (c.in_ok-nodes.nodes.items, c.in_ok-nodes.ensures, is ∙ ap told c.deref.ensures.value)) (c.records_seen.ensures.answer r is clean)
