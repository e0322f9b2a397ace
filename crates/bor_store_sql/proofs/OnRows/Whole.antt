-- A row is its columns, where there are as many, and the low end of a share.
use Rattle.std.proofs.Common.{◌≡◌, ℕ, ◌+◌, [], ◌∷◌, length, drop, Option, ap, ◌∙◌, arith, ◌≤◌, Bool, true, rules}
use Rattle.std.proofs.lemmas.List.{drop_all}
use Rattle.sqlite.specs.declared.types.Value.TheVariants.{Null}
use Rattle.sqlite.specs.Order.{Row, column}
use Rattle.bor_terms.specs.Span.{Range}
use Rattle.bor_store_sql.specs.declared.rows.typed.Part.{Part}
use Rattle.bor_store_sql.specs.Rows.Encoding.{part_columns, share_columns}
use Rattle.bor_store_sql.specs.Rows.Reading.{HasFour}
use Rattle.bor_store_sql.proofs.OnRows.Lists.{next_row}
use Rattle.std.proofs.lemmas.Bool.Decides.{nat_tests}
use Rattle.bor_terms.proofs.Held.{held_is, is_held}
use Rattle.bods_read.specs.Forms.{IsShare}

-- from a column on, the row has these values
abbrev pub HasFrom : ℕ → Row → Row → Type 0
HasFrom at row [] = Unit {0}
HasFrom at row (v ∷ vs) = (column row at ≡ v) × HasFrom (at + 1) row vs

from_on : (at : ℕ) (row vs : Row) → length row ≡ at + length vs → HasFrom at row vs → drop at row ≡ vs
from_on at row [] long h = drop_all at row (omega (arith, long))
from_on at row (v ∷ vs) long h =
    next_row row at v Null (omega (arith, long)) h.0 ∙ ap (λ l. v ∷ l) (from_on (at + 1) row vs (omega (arith, long)) h.1)

pub is_whole : (row vs : Row) → length row ≡ length vs → HasFrom 0 row vs → row ≡ vs
is_whole row vs long h = from_on 0 row vs (omega (arith, long)) h

-- ---- the last four columns

pub part_long : (p : Part) → length (part_columns p) ≡ 4
part_long p = search rules

pub part_from : (row : Row) (p : Part) → HasFour row 9 (part_columns p) → HasFrom 9 row (part_columns p)
part_from row p h = search rules

pub share_long : (o : Option Range) → length (share_columns o) ≡ 4
share_long o = search rules

pub share_from : (row : Row) (o : Option Range) → HasFour row 6 (share_columns o) → HasFrom 6 row (share_columns o)
share_from row o h = search rules

-- ---- the low end of a share

not_above : (low : ℕ) (low_open : Bool) (high : ℕ) (high_open : Bool) → is_held low low_open high high_open ≡ true → low ≤ high
not_above low low_open high high_open h = grind (arith, nat_tests)

-- the low end is no more than the high one
pub low_small : (s : Range) → IsShare s → s.low ≤ 100
low_small s h = let below = not_above s.low s.low_open s.high s.high_open (held_is s.low s.low_open s.high s.high_open h.high h.points) in let top = h.high in omega (arith, below, top)
