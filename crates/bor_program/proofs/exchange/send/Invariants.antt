use Rattle.std.proofs.Common.{drop}
use Rattle.bor_program.specs.Replying.{sent}
use Rattle.bor_program.proofs.KnownBytes.{IsWritten}
use Rattle.bor_program.proofs.exchange.send.Given as goal

abbrev pub invariant-loop-reply : goal.invariant-loop-reply
invariant-loop-reply g l = IsWritten (g.O.Write.contents l.fn.output) (g.O.Write.contents l.output) (sent l.replies) (sent (drop l.reply-index l.replies))
