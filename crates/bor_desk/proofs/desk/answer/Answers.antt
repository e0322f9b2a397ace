use Rattle.std.proofs.Common.{refl}
use Rattle.bor_register.specs.Register.{caller_of}
use Rattle.bor_desk.specs.Step.{step}
use Rattle.bor_desk.specs.Outcomes.{fault_of}
use Rattle.bor_desk.proofs.OnOperations.Outcomes.{left_by}
use Rattle.bor_desk.proofs.Steps.{step-stays_legal, ordered_for}
use Rattle.bor_desk.proofs.Isolation.{told_alone}
use Rattle.bor_desk.proofs.desk.answer.Goals as goal

pub returns-clause-legal : goal.returns-clause-legal
returns-clause-legal g c = λ r is clean legal.
    let caller = caller_of c.args.token.now r in
    left_by (fault_of c.answer_naming-reply.result.reply) (g.K.Keep.meaning.shows c.answer_naming-reply.new.keep) r (step r caller c.args.request.now).register (c.answer_naming-reply.ensures.left r is clean) legal
    (step-stays_legal r caller c.args.request.now legal)

pub returns-clause-alone : goal.returns-clause-alone
returns-clause-alone g c = λ r is clean legal.
    let caller = caller_of c.args.token.now r in
    told_alone c.answer_naming-reply.result.reply r c.args.token.now caller c.args.request.now refl legal
    (c.answer_naming-reply.ensures.step r is clean (ordered_for c.args.request.now r legal.names))
