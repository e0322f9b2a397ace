use Rattle.std.proofs.Common.{◌≡◌, true, false, Some, sym, ◌∙◌, refl, inl, inr}
use Rattle.bor_records.specs.declared.links.node.NodeInfo.TheVariants as infos
use Rattle.bor_chains.specs.declared.marks.Mark.TheVariants.{Middle}
use Rattle.bor_chains.specs.Trail.{step_by}
use Rattle.bor_chains.proofs.Marking.{gives_class}
use Rattle.bor_chains.proofs.trail.Trail.mark_class.Goals as goal

pub returns-then-has-clause-walked : goal.returns-then-has-clause-walked
returns-then-has-clause-walked g c = λ m e k.
    inl (c.in_ok-has.ensures.0 c.if-has.true, refl)

pub returns-clause-walked : goal.returns-clause-walked
returns-clause-walked g c = λ m e k. inr (
  (λ h.
      let no : true ≡ false = sym (c.in_ok-has.ensures.1 h) ∙ c.if-has.false in absurd cc),
  gives_class (g.S.LinkSource.shown m) c.args.crossing.now.link.party Middle c.in-Ok.nodes.items (Some (step_by c.args.crossing.now (infos.Entity true))) c.args.self.now c.give.new.self (c.in-Ok.ensures.reads.answer m e k) c.in_ok-give.ensures.gives,
)
