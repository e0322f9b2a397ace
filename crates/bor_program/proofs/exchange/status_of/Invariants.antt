use Rattle.std.proofs.Common.{◌≡◌, drop, max}
use Rattle.bor_program.specs.Program.{exit_code}
use Rattle.bor_program.specs.Replying.{replies_status}
use Rattle.bor_program.proofs.exchange.status_of.Given as goal

abbrev pub invariant-loop-reply : goal.invariant-loop-reply
invariant-loop-reply l = max (exit_code l.status) (replies_status (drop l.reply-index l.replies)) ≡ replies_status l.replies
