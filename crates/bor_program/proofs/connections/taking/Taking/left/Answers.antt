use Rattle.bor_program.proofs.OnConnections.Waits.{slow_behind}
use Rattle.std.proofs.Common.{◌∙◌, ◌-◌, ap}
use Rattle.std.specs.Duration.{as_nanos}
use Rattle.bor_program.proofs.connections.taking.Taking.left.Goals as goal

pub returns : goal.returns
returns c =
    let above = c.above_floor.ensures in
    let idle = c.saturating_sub.ensures ∙ ap (λ n. as_nanos c.args.limits.reply - n) c.saturating_sub-idle.ensures in
    slow_behind c.args.limits c.args.self.now c.args.now c.shorter.result c.saturating_sub.result c.above_floor.result idle
    (λ more lt. rw c.saturating_sub-in_all.ensures at (above.before more lt)) (λ more lt within. rw c.saturating_sub-in_all.ensures at (above.behind more lt within))
    c.shorter.ensures.one c.shorter.ensures.other
