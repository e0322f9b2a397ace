use Rattle.bor_wire.specs.Sent.{Unavailable}
use Rattle.bor_wire.proofs.Exchanged.{by_outcome, unread_answered}
use Rattle.bor_wire.proofs.outcome.exchange.Goals as goal

pub returns-in_default-clause-answers : goal.returns-in_default-clause-answers
returns-in_default-clause-answers g c =
    by_outcome g.K.Keep.meaning c.args.keep.now c.args.keep.now c.write_reply-in_default.result (g.R.Read.remaining c.args.reader.now.inner) _ _ Unavailable
    (unread_answered g.K.Keep.meaning c.args.keep.now (g.R.Read.remaining c.args.reader.now.inner)) (rw c.unavailable.ensures at c.write_reply-in_default.ensures.written)
