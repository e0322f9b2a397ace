-- The day that a text names (BODS 0.4, statementDate: a civil date of ISO 8601, with or without a
-- time).
use Rattle.std.specs.Prelude.{◌≡◌, ℕ, ◌+◌, ◌-◌, ◌*◌, ◌/◌, ◌%◌, List, [], ◌∷◌, ◌++◌, length}
use Rattle.std.specs.Prelude.{slice_index, count_by, Bool, ◌&&◌, ◌||◌, ◌==◌, nat_le, if◌then◌else◌}
use Rattle.std.specs.Prelude.{Option, Some, None, option_and_then, ℤ, pos, neg_ℤ, ◌+ℤ◌}
use Rattle.std.specs.Prelude.{unsigned_abs}
use Rattle.std.specs.List.{range_with_len}
use Rattle.jiff_core.specs.Calendar.{days_from_civil, days_in_month, days_of_months, IsBetween}

-- the next step, where there is a value
infixl 10 ◌>>=◌
abbrev pub ◌>>=◌ : {A B : Type 0} → Option A → (A → Option B) → Option B
o >>= f = option_and_then f o

-- the number of an ASCII digit
abbrev pub digit : ℕ → Option ℕ
digit b = if nat_le 48 b && nat_le b 57 then Some (b - 48) else None

-- the number that two digits spell
unfoldable pub pair_at : List ℕ → ℕ → Option ℕ
pair_at bytes i = do
  tens ← digit (slice_index bytes i)
  ones ← digit (slice_index bytes (i + 1))
  Some (10 * tens + ones)

-- the calendar has this day
abbrev pub is_civil : ℕ → ℕ → ℕ → Bool
is_civil year month day =
    nat_le year 9999 && (nat_le 1 month && nat_le month 12)
    && (nat_le 1 day && nat_le day (days_in_month (pos year) month))

-- the number of a day that the calendar has: the days since 1 January 1970
unfoldable pub number_of : ℕ → ℕ → ℕ → Option ℤ
number_of year month day =
    if is_civil year month day then Some (days_from_civil (pos year) month day) else None

-- ten bytes with a hyphen after the year and after the month, and nothing behind them or a T
unfoldable pub has_marks : List ℕ → Bool
has_marks bytes =
    nat_le 10 (length bytes) && (slice_index bytes 4 == 45) && (slice_index bytes 7 == 45)
    && ((length bytes == 10) || (slice_index bytes 10 == 84))

-- the day number that the digits of YYYY-MM-DD spell
unfoldable pub digits_day : List ℕ → Option ℤ
digits_day bytes = do
  century ← pair_at bytes 0
  year ← pair_at bytes 2
  month ← pair_at bytes 5
  day ← pair_at bytes 8
  number_of (100 * century + year) month day

-- the day number of a text: YYYY-MM-DD, and then nothing or a T and anything
unfoldable pub day_of : List ℕ → Option ℤ
day_of bytes = if has_marks bytes then digits_day bytes else None

-- a day number from 0000-01-01 to 9999-12-31
abbrev pub IsDay : ℤ → Type 0
IsDay z = IsBetween (neg_ℤ (pos 719_528)) (pos 2_932_896) z

-- ---- the text of a day

-- a number below a hundred, in two digits
abbrev pub two_digits : ℕ → List ℕ
two_digits n = (48 + n / 10) ∷ (48 + n % 10) ∷ []

-- YYYY-MM-DD
abbrev pub civil_text : ℕ → ℕ → ℕ → List ℕ
civil_text year month day =
    two_digits (year / 100) ++ two_digits (year % 100) ++ 45 ∷ two_digits month ++ 45
    ∷ two_digits day

-- the days from 0000-01-01 to 1 January of a year: 365 for each year, and one more for every
-- fourth, but of the centuries only for every fourth
abbrev pub year_start : ℕ → ℕ
year_start year = 365 * year + (year + 3) / 4 - (year + 99) / 100 + (year + 399) / 400

-- the year of the day so many days after 0000-01-01: as no year has more than 366 days, days / 366
-- years are over, and of the 28 years after those as many as have begun
unfoldable pub year_at : ℕ → ℕ
year_at days =
    days / 366 + count_by (λ k. nat_le (year_start (days / 366 + k)) days) (range_with_len 1 28)

-- the month of the day so many days after 1 January of a year: January, and each month that has
-- begun since
unfoldable pub month_at : ℕ → ℕ → ℕ
month_at year days =
    1 + count_by (λ m. nat_le (days_of_months (pos year) m) days) (range_with_len 1 11)

-- the text of the day so many days after the first of a month
abbrev pub text_in_month : ℕ → ℕ → ℕ → List ℕ
text_in_month year month days = civil_text year month (days + 1)

-- the text of the day so many days after 1 January of a year
abbrev pub text_in_year : ℕ → ℕ → List ℕ
text_in_year year days =
    text_in_month year (month_at year days)
    (days - days_of_months (pos year) (month_at year days - 1))

-- the text of the day so many days after 0000-01-01
abbrev pub text_at : ℕ → List ℕ
text_at days = text_in_year (year_at days) (days - year_start (year_at days))

-- the text of a day number
unfoldable pub day_text : ℤ → List ℕ
day_text z = text_at (unsigned_abs (z +ℤ pos 719_528))

-- the spelling of a day: ten bytes that name it
abbrev pub IsSpelling : ℤ → List ℕ → Type 0
IsSpelling z bytes = (length bytes ≡ 10) × (day_of bytes ≡ Some z)
