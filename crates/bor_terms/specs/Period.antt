-- The first and the last day of what a text names: a day, a month or a year (BODS 0.4, startDate
-- and endDate: a date of ISO 8601, which may be reduced to a month or a year).
use Rattle.std.specs.Prelude.{ℕ, ◌+◌, ◌*◌, List, length, slice_index, Bool, ◌&&◌, ◌==◌}
use Rattle.std.specs.Prelude.{if◌then◌else◌, Option, Some, None, ℤ, pos}
use Rattle.jiff_core.specs.Calendar.{days_in_month}
use Rattle.bor_terms.specs.Day.{◌>>=◌, day_of, number_of, pair_at}

-- the year that four digits spell
unfoldable pub year_of : List ℕ → Option ℕ
year_of bytes = do
  century ← pair_at bytes 0
  year ← pair_at bytes 2
  Some (100 * century + year)

-- exactly YYYY-MM, whatever its digits
unfoldable pub is_month : List ℕ → Bool
is_month bytes = (length bytes == 7) && (slice_index bytes 4 == 45)

-- the first day of the month that the digits of YYYY-MM spell
unfoldable pub month_start : List ℕ → Option ℤ
month_start bytes = do
  year ← year_of bytes
  month ← pair_at bytes 5
  number_of year month 1

-- its last day
unfoldable pub month_end : List ℕ → Option ℤ
month_end bytes = do
  year ← year_of bytes
  month ← pair_at bytes 5
  number_of year month (days_in_month (pos year) month)

-- 1 January of the year that the digits of YYYY spell
unfoldable pub year_start : List ℕ → Option ℤ
year_start bytes = do
  year ← year_of bytes
  number_of year 1 1

-- its 31 December
unfoldable pub year_end : List ℕ → Option ℤ
year_end bytes = do
  year ← year_of bytes
  number_of year 12 31

-- the day where there is one, else the other
abbrev pub or_else : Option ℤ → Option ℤ → Option ℤ
or_else None other = other
or_else (Some day) other = Some day

-- The first day: the day that the text names; else of exactly YYYY-MM that of the month, and of
-- exactly YYYY that of the year.
unfoldable pub start_of : List ℕ → Option ℤ
start_of text =
    or_else (day_of text)
    (if is_month text then month_start text
    else (if length text == 4 then year_start text else None))

-- the last day
unfoldable pub end_of : List ℕ → Option ℤ
end_of text =
    or_else (day_of text)
    (if is_month text then month_end text else (if length text == 4 then year_end text else None))
