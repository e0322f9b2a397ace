use Rattle.std.proofs.Common.{◌≡◌, ◌++◌, Option, List, length, vec_len}
use Rattle.bor_chains.specs.declared.trail.Step.{Step}
use Rattle.bor_chains.specs.Branches.{ArePersonsFrom, AreLinksFrom}
use Rattle.bor_chains.proofs.branches.gathered.Given as goal

-- what isn't left is gathered
abbrev pub invariant-loop-step : goal.invariant-loop-step
invariant-loop-step l = record {
  rest : List (Option Step);
  begins : l.fn.steps.items ≡ l.left.items ++ rest;
  persons : ArePersonsFrom l.fn.steps.items (length l.left.items) l.found.persons.items;
  links : AreLinksFrom l.fn.steps.items (length l.left.items) l.found.links.items;
}

abbrev pub decreases-loop-step : goal.decreases-loop-step
decreases-loop-step l = vec_len l.left
