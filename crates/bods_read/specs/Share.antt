-- The share of an interest, in percent (BODS 0.4, share; this register's profile).
use Rattle.std.specs.Prelude.{◌≤◌, ℕ, List, [], ◌∷◌, ◌++◌, Bool, false, Option, Some, None}
use Rattle.std.specs.Prelude.{option_and_then, is_some, nat_le, IfSome, if◌then◌else◌}
use Rattle.serde_json.specs.Data.{Num, Data}
use Rattle.serde_json.specs.Find.{as_number, as_bool, is_float, as_u64}
use Rattle.bor_terms.specs.Points.{Bound, at_least, above, at_most, below, points, has_points}
use Rattle.bor_terms.specs.Span.{Range}
use Rattle.bor_terms.specs.Shown.{shown}
use Rattle.bods_read.specs.declared.fault.Field.{Field}
use Rattle.bods_read.specs.declared.fault.Field.TheVariants.{Exact, Minimum, Maximum}
use Rattle.bods_read.specs.declared.fault.Field.TheVariants.{ExclusiveMinimum, ExclusiveMaximum}
use Rattle.bods_read.specs.declared.fault.Fault.{Fault}
use Rattle.bods_read.specs.declared.fault.Fault.TheVariants.{Bad, Fraction, ShareRange, EmptyShare}
use Rattle.bods_read.specs.declared.numeral.Share.{Share}
use Rattle.bods_read.specs.declared.numeral.Exclusive.{Exclusive}
use Rattle.bods_read.specs.declared.numeral.Exclusive.TheVariants.{Absent, Flag, Percent}
use Rattle.bods_read.specs.Words.{field_word}
use Rattle.bods_read.specs.Outcome.{unless, table}
use Rattle.bods_read.specs.Member.{member}

-- ---- a numeral of a share

-- a whole number from 0 to 100
abbrev pub percent_of : Num → Option ℕ
percent_of n = option_and_then (λ k. if nat_le k 100 then Some k else None) (as_u64 n)

-- a number that isn't a whole number of 64 bits is a fraction; a whole one has to be from 0 to 100
abbrev pub numeral_lines : Num → List Fault
numeral_lines n = if is_float n then Fraction ∷ [] else unless (is_some (percent_of n)) ShareRange

-- a value that is no number is bad
abbrev pub number_lines : Field → Option Num → List Fault
number_lines field None = Bad field ∷ []
number_lines field (Some n) = numeral_lines n

-- the line about a value that has to be a whole number of percent
unfoldable pub percent_lines : Field → Data → List Fault
percent_lines field d = number_lines field (as_number d)

-- the percent that a value is
unfoldable pub percent_in : Data → Option ℕ
percent_in d = option_and_then percent_of (as_number d)

-- ---- a member of a share that is a numeral

-- the line about a member, where it is there
abbrev pub optional_percent_lines : Field → Option Data → List Fault
optional_percent_lines field None = []
optional_percent_lines field (Some d) = percent_lines field d

-- where it is absent, nothing is asked
unfoldable pub percent_lines_at : Field → Data → List Fault
percent_lines_at field share = optional_percent_lines field (member (field_word field) share)

-- the percent that a member gives, where it is there
unfoldable pub percent_at : Field → Data → Option ℕ
percent_at field share = option_and_then percent_in (member (field_word field) share)

-- ---- an exclusive member: a numeral or a truth value (this register's profile)

-- a truth value is read; what is none has to be a numeral
abbrev pub either_lines : Field → Option Data → List Fault
either_lines field None = []
either_lines field (Some d) = if is_some (as_bool d) then [] else percent_lines field d

-- where it is absent, nothing is asked
unfoldable pub exclusive_lines_at : Field → Data → List Fault
exclusive_lines_at field share = either_lines field (member (field_word field) share)

-- an exclusive bound, from a number
abbrev pub by_number : Option ℕ → Exclusive
by_number None = Absent
by_number (Some m) = Percent m

-- an exclusive bound, from a truth value; without one, from a number
abbrev pub by_flag : Option Bool → Option ℕ → Exclusive
by_flag None number = by_number number
by_flag (Some flag) number = Flag flag

-- an exclusive bound, from a value
abbrev pub exclusive_in : Option Data → Exclusive
exclusive_in None = Absent
exclusive_in (Some d) = by_flag (as_bool d) (percent_in d)

-- an exclusive bound, from the member
unfoldable pub exclusive_at : Field → Data → Exclusive
exclusive_at field share = exclusive_in (member (field_word field) share)

-- ---- the bounds that a share gives

-- the bound that a member gives, where it has a number
abbrev pub bound_given : (ℕ → Bound) → Option ℕ → List Bound
bound_given bound None = []
bound_given bound (Some m) = bound m ∷ []

-- true opens the bound beside it
abbrev pub opens : Exclusive → Bool
opens Absent = false
opens (Flag flag) = flag
opens (Percent m) = false

-- a number is an open bound itself
abbrev pub open_number : Exclusive → Option ℕ
open_number Absent = None
open_number (Flag flag) = None
open_number (Percent m) = Some m

-- minimum m asks for at least m, and for more where exclusiveMinimum is true; exclusiveMinimum m
-- asks for more than m
abbrev pub lows : Option ℕ → Exclusive → List Bound
lows minimum e =
    bound_given (if opens e then above else at_least) minimum ++ bound_given above (open_number e)

-- maximum m asks for at most m, and for less where exclusiveMaximum is true; exclusiveMaximum m
-- asks for less than m
abbrev pub highs : Option ℕ → Exclusive → List Bound
highs maximum e =
    bound_given (if opens e then below else at_most) maximum ++ bound_given below (open_number e)

-- exact x asks for x and nothing else
abbrev pub exactly_or : Option ℕ → List Bound → List Bound
exactly_or None bounds = bounds
exactly_or (Some x) bounds = at_least x ∷ at_most x ∷ []

-- all the bounds that the members ask for
unfoldable pub share_bounds : Share → List Bound
share_bounds s =
    exactly_or s.exact (lows s.minimum s.exclusive_minimum ++ highs s.maximum s.exclusive_maximum)

-- ---- the share

-- its members
unfoldable pub members_of : Data → Share
members_of share = record {
  exact = percent_at Exact share;
  minimum = percent_at Minimum share;
  maximum = percent_at Maximum share;
  exclusive_minimum = exclusive_at ExclusiveMinimum share;
  exclusive_maximum = exclusive_at ExclusiveMaximum share;
}

-- the lines about its members, in order
unfoldable pub member_lines : Data → List Fault
member_lines share =
    table
    (percent_lines_at Exact share ∷ percent_lines_at Minimum share ∷ percent_lines_at Maximum share
    ∷ exclusive_lines_at ExclusiveMinimum share ∷ exclusive_lines_at ExclusiveMaximum share ∷ [])

-- lines that are looked at where none of those before them fails
abbrev pub unless_failed : List Fault → List Fault → List Fault
unless_failed [] lines = lines
unless_failed (fault ∷ more) lines = []

-- the lines about its members, then the one about its points
unfoldable pub range_lines : Data → List Fault
range_lines share =
    table (member_lines share
    ∷ unless_failed (member_lines share)
    (unless (has_points (share_bounds (members_of share))) EmptyShare) ∷ [])

-- the range from the least to the greatest of its points
unfoldable pub range_of : Data → Option Range
range_of share = shown (points (share_bounds (members_of share)))

-- ---- shares whose numbers are percents, for clauses of private functions alone

-- its number, where it is one
abbrev pub IsSmallExclusive : Exclusive → Type 0
IsSmallExclusive Absent = Unit {0}
IsSmallExclusive (Flag flag) = Unit {0}
IsSmallExclusive (Percent n) = n ≤ 100

-- each number that it has
pub record IsSmallShare (s : Share) : Type 0 where
  pub exact : IfSome s.exact (λ n. n ≤ 100)
  pub minimum : IfSome s.minimum (λ n. n ≤ 100)
  pub maximum : IfSome s.maximum (λ n. n ≤ 100)
  pub exclusive_minimum : IsSmallExclusive s.exclusive_minimum
  pub exclusive_maximum : IsSmallExclusive s.exclusive_maximum
