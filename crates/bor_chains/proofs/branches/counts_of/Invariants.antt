use Rattle.bor_chains.specs.Branches.{AreCounts}
use Rattle.bor_chains.proofs.branches.counts_of.Given as goal

-- the counts of the places so far
abbrev pub invariant-loop-place : goal.invariant-loop-place
invariant-loop-place l = AreCounts l.steps l.place l.counts.items
