use Rattle.std.proofs.Common.{Some, ap, arith}
use Rattle.bor_chains.specs.declared.trail.Step.{Step}
use Rattle.bor_chains.specs.Trail.{step_by}
use Rattle.bor_chains.proofs.Trails.{filled_none, filled_more, filled_all}
use Rattle.bor_chains.proofs.trail.fill.Goals as goal

pub loop-alloc-init : goal.loop-alloc-init
loop-alloc-init c = filled_none c.args.count (Some (step_by c.args.crossing.now c.args.info.now)) c.args.steps.now.items

pub loop-alloc-preserved : goal.loop-alloc-preserved
loop-alloc-preserved c =
    filled_more c.args.count (Some (step_by c.args.crossing.now c.args.info.now)) (Some c.in_ok-step.step) c.args.steps.now.items c.loop-alloc.steps.items c.push.new.self.items (ap (λ (x : Step). Some x) c.in_ok-step.ensures) (omega arith) c.in_ok-push.ensures.items c.loop-alloc.invariant

pub returns : goal.returns
returns c = filled_all c.args.count (Some (step_by c.args.crossing.now c.args.info.now)) c.args.steps.now.items c.loop-alloc.steps.items (omega arith) c.loop-alloc.invariant
