-- The points of a share (BODS 0.4, share; in this register's profile whole percents): the half
-- percents from 0 to 200 that meet every bound it gives.
use Rattle.std.specs.Prelude.{ℕ, ◌*◌, List, [], ◌∷◌, Bool, true, nat_lt, nat_le, if◌then◌else◌}
use Rattle.std.specs.List.{list_all, list_any, filter, range_with_len}

-- a bound on the points of a share, in percents
pub data Bound : Type 0 where
  at_least : ℕ → Bound
  above : ℕ → Bound
  at_most : ℕ → Bound
  below : ℕ → Bound

-- whether the half percent h meets a bound
abbrev pub meets : Bound → ℕ → Bool
meets (at_least m) h = nat_le (2 * m) h
meets (above m) h = nat_lt (2 * m) h
meets (at_most m) h = nat_le h (2 * m)
meets (below m) h = nat_lt h (2 * m)

-- a share that gives no bound has them all
unfoldable pub points : List Bound → List ℕ
points bounds = filter (λ h. list_all (λ b. meets b h) bounds) (range_with_len 0 201)

-- whether there is one
abbrev pub has_points : List Bound → Bool
has_points bounds = list_any (λ _. true) (points bounds)

abbrev pub low_bound : ℕ → Bool → Bound
low_bound low low_open = if low_open then above low else at_least low

abbrev pub high_bound : ℕ → Bool → Bound
high_bound high high_open = if high_open then below high else at_most high

-- the bounds at the ends of a range
abbrev pub end_bounds : ℕ → Bool → ℕ → Bool → List Bound
end_bounds low low_open high high_open = low_bound low low_open ∷ high_bound high high_open ∷ []
