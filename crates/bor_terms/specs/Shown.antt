-- The ends that are shown of a list of points (this register's profile).
use Rattle.std.specs.Prelude.{ℕ, ◌+◌, ◌/◌, ◌%◌, List, Bool, Option, None, option_and_then}
use Rattle.std.specs.Prelude.{option_map, slice_get, ◌==◌}
use Rattle.std.specs.List.{last_or}
use Rattle.bor_terms.specs.Span.{Range, range}

abbrev pub is_odd : ℕ → Bool
is_odd p = p % 2 == 1

-- the least point halved, rounded down and open where it is odd; the greatest halved, rounded up
-- and open where it is odd
abbrev pub range_from : ℕ → ℕ → Range
range_from p q = range (p / 2) (is_odd p) ((q + 1) / 2) (is_odd q)

unfoldable pub shown : List ℕ → Option Range
shown ps =
    option_and_then (λ p. option_map (λ q. range_from p q) (last_or None ps)) (slice_get ps 0)
