use Rattle.std.proofs.Common.{◌≡◌, ◌∙◌, Contains, length, arith, sym}
use Rattle.std.specs.Prelude.{drop}
use Rattle.std.specs.Vec.{vec_len}
use Rattle.std.proofs.lemmas.Bool.{eqb-true, eq-eqb, false≢true}
use Rattle.bor_records.specs.Links.Nodes.{node_cmp}
use Rattle.bor_records.specs.Links.Orders.{node_total}
use Rattle.bor_records.proofs.OnLinks.Exact.{exact_node}
use Rattle.bor_records.proofs.OnLinks.Given.{given_copied, popped, rest_begun, rest_more, on_ok, on_err}
use Rattle.bor_records.proofs.OnLinks.Growth.{grown_push, grown_there}
use Rattle.bor_records.proofs.OnLinks.InOrder.{distinct_more}
use Rattle.bor_records.proofs.links.class.Class.add.Goals as goal

pub returns-then-has-clause-grown : goal.returns-then-has-clause-grown
returns-then-has-clause-grown c = grown_there c.args.self.now c.args.node (c.has.ensures.0 c.if-has.true)

pub invariant_of-self : goal.invariant_of-self
invariant_of-self c = rw c.in_err-push.ensures.items c.self.invariant

pub invariant_of-self-then-is_empty : goal.invariant_of-self-then-is_empty
invariant_of-self-then-is_empty c =
    let gone : Contains c.self.inside.order.items c.args.node → ⊥ = λ h. false≢true (sym c.if-has.false ∙ c.has.ensures.1 (rw c.self.view_is at h)) in
    rw c.in_ok-push.ensures.items (
      rest_begun c.self.inside.order.items c.self.inside.rest.keys c.args.node (omega (arith, eqb-true (vec_len c.self.inside.order) 0 (sym c.is_empty.ensures ∙ c.if-is_empty.true))) c.self.invariant.0,
      distinct_more c.self.inside.order.items c.args.node c.self.invariant.1 gone,
    )

pub invariant_of-self-in_err-push-2 : goal.invariant_of-self-in_err-push-2
invariant_of-self-in_err-push-2 c = rw c.in_err-push-2.ensures.items c.self.invariant

pub invariant_of-self-then-is_err : goal.invariant_of-self-then-is_err
invariant_of-self-then-is_err c =
    let failed = sym c.is_err.ensures.value ∙ c.if-is_err.true in
    let len : vec_len c.push-2.new.self ≡ length c.push-2.new.self.items = omega arith in
    let left = popped c.self.inside.order.items c.push-2.new.self.items c.pop.new.self.items c.args.node (vec_len c.push-2.new.self) c.in_ok-push-2.ensures.items len c.pop.ensures.rest in
    let kept = on_err c.insert.result _ failed c.insert.ensures.err in
    rw (left, kept) c.self.invariant

pub invariant_of-self-else-is_err : goal.invariant_of-self-else-is_err
invariant_of-self-else-is_err c =
    let made = sym c.is_err.ensures.value ∙ c.if-is_err.false in
    let updates = on_ok c.insert.result _ made c.insert.ensures.updates in
    let gone : Contains c.self.inside.order.items c.args.node → ⊥ = λ h. false≢true (sym c.if-has.false ∙ c.has.ensures.1 (rw c.self.view_is at h)) in
    let more = rest_more c.self.inside.order.items c.args.node (λ none. false≢true (sym c.if-is_empty.false ∙ c.is_empty.ensures ∙ eq-eqb (vec_len c.self.inside.order) 0 (omega (arith, none)))) in
    rw c.in_ok-push-2.ensures.items (
      rw (← more)
          (given_copied node_cmp node_total exact_node (drop 1 c.self.inside.order.items) c.self.inside.rest c.insert.new.self c.args.node c.in_ok-copied.copied c.in_ok-copied.ensures c.self.invariant.0 updates.0 updates.1),
      distinct_more c.self.inside.order.items c.args.node c.self.invariant.1 gone,
    )

pub returns-then-is_empty-clause-grown : goal.returns-then-is_empty-clause-grown
returns-then-is_empty-clause-grown c = rw (c.in_ok-push.ensures.items, c.self.view_is) (grown_push c.args.self.now c.args.node)

pub returns-clause-grown : goal.returns-clause-grown
returns-clause-grown c = rw (c.in_ok-push-2.ensures.items, c.self.view_is) (grown_push c.args.self.now c.args.node)
