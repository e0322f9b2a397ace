use Rattle.bor_wire.proofs.Exchanged.{read_answered, unread_answered}
use Rattle.bor_wire.proofs.outcome.read_reply.Goals as goal

pub returns-in-Ok-clause-answers : goal.returns-in-Ok-clause-answers
returns-in-Ok-clause-answers g c =
    read_answered g.K.Keep.meaning c.args.keep.now c.respond.new.keep (g.R.Read.remaining c.args.reader.now.inner) c.in-Ok.input.items c.respond.result.reply c.in-Ok.ensures.request
    (rw c.deref.ensures.value at c.respond.ensures.answers)

pub returns-in-Err-clause-answers : goal.returns-in-Err-clause-answers
returns-in-Err-clause-answers g c = rw c.unavailable.ensures (unread_answered g.K.Keep.meaning c.args.keep.now (g.R.Read.remaining c.args.reader.now.inner))
