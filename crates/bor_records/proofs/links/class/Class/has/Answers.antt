use Rattle.std.proofs.Common.{◌≡◌, ◌∙◌, sym, true≢false}
use Rattle.std.specs.Prelude.{slice_get}
use Rattle.bor_records.specs.Links.Nodes.{node_cmp, same_node}
use Rattle.bor_records.specs.Links.Orders.{node_equiv, node_total}
use Rattle.bor_records.proofs.OnLinks.Exact.{exact_node}
use Rattle.bor_records.proofs.OnLinks.Given.{rest_has}
use Rattle.bor_records.proofs.links.class.Class.has.Goals as goal

pub returns-else-eq : goal.returns-else-eq
returns-else-eq c =
    let other : c.in-Some.first.now ≡ c.args.node.now → ⊥ = λ e. true≢false (sym (node_equiv.refl c.args.node.now) ∙ (λ t. same_node (sym e t) c.args.node.now) ∙ sym c.eq.ensures ∙ c.if-eq.false) in
    rw (c.contains.ensures, ← c.self.view_is)
    (rest_has node_cmp node_total exact_node c.self.inside.order.items c.self.inside.rest c.in-Some.first.now c.args.node.now (c.in-Some.ensures.value ∙ (λ t. slice_get (c.deref.ensures.value t) 0)) other c.self.invariant.0)
