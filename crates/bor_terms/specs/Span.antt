-- A range as contracts see it (BODS 0.4, share), and its points.
use Rattle.std.specs.Prelude.{◌≡◌, ℕ, List, Bool, true}
use Rattle.bor_terms.specs.Points.{Bound, points, has_points, end_bounds}

-- the ends, in percents, and which of them are open
pub record Range : Type 0 where
  pub low : ℕ
  pub low_open : Bool
  pub high : ℕ
  pub high_open : Bool

abbrev pub range : ℕ → Bool → ℕ → Bool → Range
range low low_open high high_open = record {
  low = low;
  low_open = low_open;
  high = high;
  high_open = high_open;
}

-- the bounds at the ends
abbrev pub bounds_of : Range → List Bound
bounds_of r = end_bounds r.low r.low_open r.high r.high_open

abbrev pub points_of : Range → List ℕ
points_of r = points (bounds_of r)

abbrev pub HasPoints : Range → Type 0
HasPoints r = has_points (bounds_of r) ≡ true
