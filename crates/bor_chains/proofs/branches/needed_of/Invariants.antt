use Rattle.std.proofs.Common.{◌≡◌, ◌≤◌, length}
use Rattle.bor_chains.specs.Branches.{AreNeeded}
use Rattle.bor_chains.proofs.branches.needed_of.Given as goal

-- the places from here on are gone over
abbrev pub invariant-loop-place : goal.invariant-loop-place
invariant-loop-place l = record { within : l.place ≤ length l.steps; long : length l.needed.items ≡ length l.steps; needed : AreNeeded l.steps l.place l.needed.items }

abbrev pub decreases-loop-place : goal.decreases-loop-place
decreases-loop-place l = l.place
