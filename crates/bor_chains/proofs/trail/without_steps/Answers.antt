use Rattle.std.proofs.Common.{[], None, refl, arith}
use Rattle.bor_chains.proofs.Trails.{filled_none, filled_more, filled_all}
use Rattle.bor_chains.proofs.trail.without_steps.Goals as goal

pub loop-steps-init : goal.loop-steps-init
loop-steps-init c = rw c.new-steps.ensures.items (filled_none c.args.count None [])

pub loop-steps-preserved : goal.loop-steps-preserved
loop-steps-preserved c =
    filled_more c.args.count None None [] c.loop-steps.steps.items c.push.new.self.items refl (omega arith) c.in_ok-push.ensures.items c.loop-steps.invariant

pub returns : goal.returns
returns c = filled_all c.args.count None [] c.loop-steps.steps.items (omega arith) c.loop-steps.invariant
