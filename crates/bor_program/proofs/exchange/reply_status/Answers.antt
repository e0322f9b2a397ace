use Rattle.std.proofs.Common.{sym, ◌∙◌, subst, ◌≤◌, ◌<◌}
use Rattle.bor_program.proofs.Replies.{ends_done_by, ends_refused_by}
use Rattle.bor_program.proofs.exchange.reply_status.Goals as goal

pub returns-then-status-ge400 : goal.returns-then-status-ge400
returns-then-status-ge400 c =
    sym (ends_refused_by c.args.reply.now c.status-status.ensures.told (λ e. c.if-status-eq503.false (c.status-status.ensures.status ∙ e)) (subst (λ n. 400 ≤ n) c.status-status.ensures.status c.if-status-ge400.true))

pub returns-else-status-ge400 : goal.returns-else-status-ge400
returns-else-status-ge400 c =
    sym (ends_done_by c.args.reply.now c.status-status.ensures.told (λ e. c.if-status-eq503.false (c.status-status.ensures.status ∙ e)) (subst (λ n. n < 400) c.status-status.ensures.status c.if-status-ge400.false))
