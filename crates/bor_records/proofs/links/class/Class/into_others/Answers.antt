use Rattle.std.proofs.Common.{◌≡◌, ◌∙◌, not, rules, ap}
use Rattle.std.specs.List.{filter}
use Rattle.std.proofs.lemmas.Fn.{filter_same}
use Rattle.bor_records.specs.Links.Nodes.{same_node}
use Rattle.bor_records.proofs.OnLinks.InOrder.{others_are, others_distinct}
use Rattle.bor_records.proofs.links.class.Class.into_others.Goals as goal

pub returns-clause-others : goal.returns-clause-others
returns-clause-others c =
    let kept : c.retain.new.self.items ≡ filter (λ n. not (same_node n c.args.node.now)) c.self.inside.order.items = filter_same _ _ _ (λ x b f' k. search rules) _ _ c.retain.ensures.filtered in
    others_are c.args.self c.retain.new.self.items c.args.node.now (kept ∙ ap (filter (λ n. not (same_node n c.args.node.now))) c.self.view_is)

pub returns-clause-distinct : goal.returns-clause-distinct
returns-clause-distinct c =
    let kept : c.retain.new.self.items ≡ filter (λ n. not (same_node n c.args.node.now)) c.self.inside.order.items = filter_same _ _ _ (λ x b f' k. search rules) _ _ c.retain.ensures.filtered in
    others_distinct c.self.inside.order.items c.retain.new.self.items c.args.node.now kept c.self.invariant.1
