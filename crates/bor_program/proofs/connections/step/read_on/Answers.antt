use Rattle.std.proofs.Common.{◌∷◌, [], inl, refl}
use Rattle.bor_wire.proofs.Exchanged.{unasked}
use Rattle.bor_program.specs.Connections.Serving.{given_reply}
use Rattle.bor_program.proofs.OnConnections.Phases.{answer_step}
use Rattle.bor_program.proofs.connections.step.read_on.Goals as goal

pub returns-in-Whole-clause-step : goal.returns-in-Whole-clause-step
returns-in-Whole-clause-step g c =
    let w = c.new-writing.result in
    answer_step _ _ c.args.keep.now c.respond-reply.new.keep _ c.respond-reply.result
    (given_reply w.request.value.items w.reply ∷ []) _ _ (rw (c.new-writing.ensures.request, c.new-writing.ensures.reply, c.of-request.ensures) refl) c.respond-reply.ensures.answers
    c.respond-reply.ensures.noted

pub returns-in-Unfit-clause-step : goal.returns-in-Unfit-clause-step
returns-in-Unfit-clause-step g c =
    let w = c.new-writing-in-Unfit.result in
    answer_step _ _ c.args.keep.now c.args.keep.now w.request.value.items w.reply
    (given_reply w.request.value.items w.reply ∷ []) _ _ refl (rw (c.new-writing-in-Unfit.ensures.reply, c.unavailable.ensures) (unasked g.K.Keep.meaning c.args.keep.now w.request.value.items)) (inl refl)
