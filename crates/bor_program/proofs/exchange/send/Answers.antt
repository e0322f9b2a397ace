use Rattle.std.proofs.Common.{rules, ◌≡◌, ◌+◌, ◌++◌, arith, drop}
use Rattle.std.specs.Io.KnownBytes.{Appends}
use Rattle.std.proofs.lemmas.Grind.{common_steps}
use Rattle.bor_program.specs.Replying.{sent}
use Rattle.bor_program.proofs.Replies.{part_begun, part_written}
use Rattle.bor_program.proofs.exchange.send.Goals as goal

pub returns-then-not-write_part-clause-part : goal.returns-then-not-write_part-clause-part
returns-then-not-write_part-clause-part g c =
    let i = c.loop-reply.reply-index in
    let replies = c.args.replies.now in
    let more : sent (drop i replies) ≡ c.bytes.result.now ++ sent (drop (i + 1) replies) = grind (arith, common_steps) in
    part_begun _ _ _ _ _ _ _ more c.loop-reply.invariant c.write_part.ensures.part

pub loop-reply-preserved : goal.loop-reply-preserved
loop-reply-preserved g c =
    let i = c.loop-reply.reply-index in
    let replies = c.args.replies.now in
    let more : sent (drop i replies) ≡ c.bytes.result.now ++ sent (drop (i + 1) replies) = grind (arith, common_steps) in
    let whole : Appends (g.O.Write.contents c.loop-reply.output) (g.O.Write.contents c.write_part.new.writer) c.bytes.result.now = search rules in
    part_written _ _ _ _ _ _ _ more c.loop-reply.invariant whole
