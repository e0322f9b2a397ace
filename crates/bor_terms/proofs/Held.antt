-- The points of two ends: from the least one on, below a bound; and what the tests of a range say of them.
use Rattle.std.proofs.Common.{◌≡◌, ℕ, zero, suc, ◌+◌, ◌-◌, ◌*◌, ◌<◌, ◌≤◌, Bool, true, false, not, ◌&&◌, ◌||◌, sym, ap, ◌∙◌, arith}
use Rattle.std.specs.Prelude.{nat_lt, nat_le, ◌==◌}
use Rattle.std.proofs.lemmas.Bool.{ltb-true, lt-ltb, le-ltb}
use Rattle.std.proofs.lemmas.Bool.Decides.{nat_tests}
use Rattle.std.specs.List.{list_all, list_any, range_with_len}
use Rattle.bor_terms.specs.Points.{meets, points, has_points, end_bounds}
use Rattle.bor_terms.proofs.AnyPoint.{between, all_above, any_above}

abbrev pub is_held : ℕ → Bool → ℕ → Bool → Bool
is_held low low_open high high_open = nat_lt low high || (low == high && (not low_open && not high_open))

-- the least point, where there is one
abbrev pub least : ℕ → Bool → ℕ
least low true = 2 * low + 1
least low false = 2 * low

-- the first number behind the points
abbrev pub past : ℕ → Bool → ℕ
past high true = 2 * high
past high false = 2 * high + 1

past_room : (high : ℕ) (high_open : Bool) → high ≤ 100 → past high high_open ≤ 0 + 201
past_room high high_open le = grind arith

ends_meet : (low : ℕ) (low_open : Bool) (high : ℕ) (high_open : Bool) (h : ℕ)
    → list_all (λ b. meets b h) (end_bounds low low_open high high_open) ≡ (nat_le (least low low_open) h && nat_lt h (past high high_open))
ends_meet low low_open high high_open h = grind (arith, nat_tests)

held_as : (low : ℕ) (low_open : Bool) (high : ℕ) (high_open : Bool) → nat_lt 0 (past high high_open - least low low_open) ≡ is_held low low_open high high_open
held_as low low_open high high_open = grind (arith, nat_tests)

points_are : (low : ℕ) (low_open : Bool) (high : ℕ) (high_open : Bool) → high ≤ 100 → points (end_bounds low low_open high high_open) ≡ range_with_len (least low low_open) (past high high_open - least low low_open)
unfolding points
points_are low low_open high high_open le =
    between (λ h. list_all (λ b. meets b h) (end_bounds low low_open high high_open)) 0 201 (least low low_open) (past high high_open) (omega arith) (past_room high high_open le) (ends_meet low low_open high high_open)

any_there : (a n : ℕ) → list_any (λ _. true) (range_with_len a n) ≡ nat_lt 0 n
any_there a zero = sym (le-ltb 0 0 (omega arith))
any_there a (suc n) = sym (lt-ltb 0 (suc n) (omega arith))

-- the code's comparison says whether there are points
pub has_points_ends : (low : ℕ) (low_open : Bool) (high : ℕ) (high_open : Bool) → high ≤ 100 → has_points (end_bounds low low_open high high_open) ≡ is_held low low_open high high_open
has_points_ends low low_open high high_open le =
    ap (list_any (λ _. true)) (points_are low low_open high high_open le) ∙ any_there (least low low_open) (past high high_open - least low low_open) ∙ held_as low low_open high high_open

pub held_is : (low : ℕ) (low_open : Bool) (high : ℕ) (high_open : Bool) → high ≤ 100 → has_points (end_bounds low low_open high high_open) ≡ true → is_held low low_open high high_open ≡ true
held_is low low_open high high_open le has = sym (has_points_ends low low_open high high_open le) ∙ has

-- where there are points, so many from the least one on
pub points_some : (low : ℕ) (low_open : Bool) (high : ℕ) (high_open : Bool) → high ≤ 100 → has_points (end_bounds low low_open high high_open) ≡ true
    → (n : ℕ) × (points (end_bounds low low_open high high_open) ≡ range_with_len (least low low_open) (suc n)) × (least low low_open + n + 1 ≡ past high high_open)
points_some low low_open high high_open le has =
    let count = past high high_open - least low low_open in
    let some : 0 < count = ltb-true 0 count (held_as low low_open high high_open ∙ held_is low low_open high high_open le has) in
    let more : count ≡ suc (count - 1) = omega arith in
    (count - 1, points_are low low_open high high_open le ∙ ap (range_with_len (least low low_open)) more, omega arith)

-- ---- what the tests of a range say

abbrev pub is_above_half : ℕ → Bool → Bool
is_above_half low low_open = nat_lt 50 low || (low == 50 && low_open)

half_least : (low : ℕ) (low_open : Bool) → nat_lt 100 (least low low_open) ≡ is_above_half low low_open
half_least low low_open = grind (arith, nat_tests)

pub above_half_is : (low : ℕ) (low_open : Bool) (high : ℕ) (high_open : Bool) → high ≤ 100 → has_points (end_bounds low low_open high high_open) ≡ true → list_all (λ h. nat_lt 100 h) (points (end_bounds low low_open high high_open)) ≡ is_above_half low low_open
above_half_is low low_open high high_open le has =
    let m = points_some low low_open high high_open le has in
    ap (list_all (λ h. nat_lt 100 h)) m.1 ∙ all_above 100 (least low low_open) m.0 ∙ half_least low low_open

zero_last : (high : ℕ) (high_open : Bool) (last : ℕ) → last + 1 ≡ past high high_open → nat_lt 0 last ≡ nat_lt 0 high
zero_last high high_open last e = grind (arith, nat_tests)

pub above_zero_is : (low : ℕ) (low_open : Bool) (high : ℕ) (high_open : Bool) → high ≤ 100 → has_points (end_bounds low low_open high high_open) ≡ true → list_any (λ h. nat_lt 0 h) (points (end_bounds low low_open high high_open)) ≡ nat_lt 0 high
above_zero_is low low_open high high_open le has =
    let m = points_some low low_open high high_open le has in
    ap (list_any (λ h. nat_lt 0 h)) m.1 ∙ any_above 0 (least low low_open) m.0 ∙ zero_last high high_open (least low low_open + m.0) m.2
