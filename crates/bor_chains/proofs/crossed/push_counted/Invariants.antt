use Rattle.std.proofs.Common.{vec_len}
use Rattle.bor_chains.specs.Crossings.{AreCountedSoFar}
use Rattle.bor_chains.proofs.crossed.push_counted.Given as goal

-- those that aren't left are counted
abbrev pub invariant-loop-link : goal.invariant-loop-link
invariant-loop-link l = AreCountedSoFar l.fn.links.items l.mark l.below l.left.items l.initial.crossings.items l.crossings.items

abbrev pub decreases-loop-link : goal.decreases-loop-link
decreases-loop-link l = vec_len l.left
