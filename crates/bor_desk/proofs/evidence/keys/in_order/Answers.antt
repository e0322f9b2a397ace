use Rattle.std.proofs.Common.{◌≡◌, ◌↔◌, ◌∙◌, List, [], Contains, map, subst, sym}
use Rattle.std.proofs.lemmas.Iterator.Adapters.{YieldsList-from_vec}
use Rattle.std.proofs.lemmas.Iterator.Consumers.{YieldsList-end}
use Rattle.std.proofs.lemmas.List.{map-id}
use Rattle.std.proofs.lemmas.Result.{IfOk-weaker}
use Rattle.bor_records.specs.declared.links.node.Node.{Node}
use Rattle.bor_desk.specs.declared.evidence.keys.Key.{Key}
use Rattle.bor_desk.specs.Mentioned.{node_of, nodes_in}
use Rattle.bor_desk.proofs.OnEvidence.Keyed.{gained_next}
use Rattle.bor_desk.proofs.evidence.keys.in_order.Goals as goal

pub loop-node-init : goal.loop-node-init
loop-node-init c = λ n. subst (λ (ks : List Key). Contains (map node_of ks) n ↔ Contains [] n) (sym c.new-keys.ensures.empty) (λ h. h, λ h. h)

pub loop-node-preserved : goal.loop-node-preserved
loop-node-preserved c = gained_next c.loop-node.yielded c.in-Some.node (nodes_in c.loop-node.keys) (nodes_in c.add.new.keys) c.loop-node.invariant c.in_ok-add.ensures

pub returns-clause-each : goal.returns-clause-each
returns-clause-each c =
    let gives = c.into_iter-node-iterator.ensures.into_iter_gives in
    let all = YieldsList-end (YieldsList-from_vec c.args.nodes.items gives.0 (gives.1 ∙ c.args.nodes.ok.0)) c.loop-node.yielded c.loop-node.node-iterator c.loop-node.yielded_by c.next.result c.next.new.self c.in-None.is c.next.ensures.steps in
    let each = subst (λ (ns : List Node). (n : Node) → Contains (nodes_in c.loop-node.keys) n ↔ Contains ns n) (sym (map-id c.loop-node.yielded) ∙ all.0) c.loop-node.invariant in
    IfOk-weaker c.nodes_of.result (λ out. out.items ≡ nodes_in c.loop-node.keys) (λ out. (n : Node) → Contains out.items n ↔ Contains c.args.nodes.items n)
    (λ out same. subst (λ (ns : List Node). (n : Node) → Contains ns n ↔ Contains c.args.nodes.items n) (sym same) each) c.nodes_of.ensures.same
