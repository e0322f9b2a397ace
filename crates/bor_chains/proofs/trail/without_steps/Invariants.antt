use Rattle.std.proofs.Common.{◌-◌, [], None, vec_len}
use Rattle.bor_chains.proofs.Trails.{AreFilled}
use Rattle.bor_chains.proofs.trail.without_steps.Given as goal

-- no place has a step
abbrev pub invariant-loop-steps : goal.invariant-loop-steps
invariant-loop-steps l = AreFilled l.count None [] l.steps.items

abbrev pub decreases-loop-steps : goal.decreases-loop-steps
decreases-loop-steps l = l.count - vec_len l.steps
