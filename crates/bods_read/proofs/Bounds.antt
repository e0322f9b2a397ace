-- Two ends beside the bounds that made them.
use Rattle.std.proofs.Common.{◌≡◌, ℕ, ◌<◌, Bool, true, false, List, ◌++◌, Some, None, refl, sym, ap, ◌∙◌}
use Rattle.std.specs.Prelude.{is_some}
use Rattle.std.specs.List.{list_all}
use Rattle.std.proofs.Math.Bool.{and-true}
use Rattle.std.proofs.lemmas.List.Folds.{list_all-append}
use Rattle.bor_terms.specs.Points.{Bound, meets, low_bound, high_bound, end_bounds, points, has_points}
use Rattle.bor_terms.specs.Span.{Range}
use Rattle.bor_terms.specs.Shown.{shown}
use Rattle.bor_terms.proofs.Shown.{points_same, is_some-shown}
use Rattle.bods_read.proofs.Tables.{table_rules}

pub points-made : (low : ℕ) (low_open : Bool) (high : ℕ) (high_open : Bool) (lows highs : List Bound) → ((h : ℕ) → meets (low_bound low low_open) h ≡ list_all (λ b. meets b h) lows) → ((h : ℕ) → h < 201 → meets (high_bound high high_open) h ≡ list_all (λ b. meets b h) highs)
    → points (end_bounds low low_open high high_open) ≡ points (lows ++ highs)
points-made low low_open high high_open lows highs l r =
    points_same (end_bounds low low_open high high_open) (lows ++ highs)
    (λ h lt. rw (list_all-append (λ b. meets b h) lows highs, l h, r h lt, and-true (list_all (λ b. meets b h) highs)) refl)

pub has_points-some : (bs : List Bound) (r : Range) → Some r ≡ shown (points bs) → has_points bs ≡ true
has_points-some bs r e = sym (is_some-shown (points bs)) ∙ sym (ap is_some e)

pub has_points-none : (bs : List Bound) → None ≡ shown (points bs) → has_points bs ≡ false
has_points-none bs e = sym (is_some-shown (points bs)) ∙ sym (ap is_some e)

pub ruleset range_rules = (table_rules, has_points-some, has_points-none)
