use Rattle.std.proofs.Common.{◌-◌, Some, vec_len}
use Rattle.bor_chains.specs.Trail.{step_by}
use Rattle.bor_chains.proofs.Trails.{AreFilled}
use Rattle.bor_chains.proofs.trail.fill.Given as goal

-- what is put there are steps over the crossing
abbrev pub invariant-loop-alloc : goal.invariant-loop-alloc
invariant-loop-alloc l = AreFilled l.count (Some (step_by l.crossing l.info)) l.initial.steps.items l.steps.items

abbrev pub decreases-loop-alloc : goal.decreases-loop-alloc
decreases-loop-alloc l = l.count - vec_len l.steps
