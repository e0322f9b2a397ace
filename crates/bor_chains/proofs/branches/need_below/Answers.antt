use Rattle.std.proofs.Common.{◌<◌, Bool, Some, sym, refl, inl, inr, ◌∙◌, ap, length, arith}
use Rattle.std.proofs.lemmas.Option.{slice_get_read}
use Rattle.bor_chains.proofs.Steps.{needed_end, needed_not, needed_yes}
use Rattle.bor_chains.proofs.branches.need_below.Goals.{then-not-is_entity-via-then-not-is_entity, then-not-is_entity-via-else-not-is_entity+then-index}
use Rattle.bor_chains.proofs.branches.need_below.Goals as goal

pub returns-then-not-is_entity-clause-needed : goal.returns-then-not-is_entity-clause-needed
returns-then-not-is_entity-clause-needed c = λ a.
    let within : c.args.place < length c.args.needed.now.items = omega arith in
    needed_yes c.args.steps.now c.args.place c.in-Some.step.now c.args.needed.now.items c.in-Some.ensures.some
    (elim c.then-not-is_entity.branch [
      | then-not-is_entity-via-then-not-is_entity w ↦ inl (sym c.is_entity.ensures ∙ w.if-not-is_entity.true)
      | then-not-is_entity-via-else-not-is_entity+then-index w ↦
          inr (slice_get_read c.args.needed.now.items (length c.args.needed.now.items) c.args.place w.index.result.now refl within w.index.ensures ∙ ap (λ (b : Bool). Some b) w.if-index.true)
    ])
    a

pub returns-else-index-clause-needed : goal.returns-else-index-clause-needed
returns-else-index-clause-needed c = λ a.
    let within : c.args.place < length c.args.needed.now.items = omega arith in
    needed_not c.args.steps.now c.args.place c.in-Some.step.now c.args.needed.now.items c.in-Some.ensures.some (sym c.is_entity.ensures ∙ c.if-not-is_entity.false)
    (slice_get_read c.args.needed.now.items (length c.args.needed.now.items) c.args.place c.index.result.now refl within c.index.ensures ∙ ap (λ (b : Bool). Some b) c.if-index.false) a

pub returns-in_default-clause-needed : goal.returns-in_default-clause-needed
returns-in_default-clause-needed c = λ a. needed_end c.args.steps.now c.args.place c.args.needed.now.items c.in_default.ensures.none a
