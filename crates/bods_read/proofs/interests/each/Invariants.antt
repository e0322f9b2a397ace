use Rattle.std.proofs.Common.{◌≡◌, ◌+◌, drop, map}
use Rattle.serde_json.specs.View.{view}
use Rattle.bods_read.specs.Outcome.{outcome}
use Rattle.bods_read.specs.Interests.{interest_lines, interest_of, each_lines}
use Rattle.bods_read.proofs.Kept.{rest}
use Rattle.bods_read.proofs.interests.each.Given as goal

abbrev pub invariant-loop-value : goal.invariant-loop-value
invariant-loop-value l =
    outcome (each_lines (map view l.values)) (map interest_of (map view l.values))
    ≡ rest view (λ _. interest_lines) interest_of (l.value-index + 1) l.interests.items (drop l.value-index l.values)
