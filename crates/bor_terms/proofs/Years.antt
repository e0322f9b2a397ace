-- The days of the years from 0 to 9999, and of a date of the calendar.
use Rattle.std.proofs.Common.{◌≡◌, ℕ, true, Some, inl, ℤ, pos, neg_ℤ, ◌≤ℤ◌, ◌<ℤ◌, refl, arith, rules, lit≤}
use Rattle.std.proofs.lemmas.Int.{ints}
use Rattle.std.proofs.lemmas.Bool.Decides.{nat_tests}
use Rattle.jiff_core.specs.declared.civil.date.Date.{Date}
use Rattle.jiff_core.specs.Calendar.{IsDate, days_from_civil, day_count, days_of_years, days_of_months}
use Rattle.jiff_core.specs.Date.{epoch_day, IsYmd}
use Rattle.jiff_core.proofs.DateLemmas.{epoch_day-lt, epoch_day_range, epoch_day_same, cases_date}
use Rattle.bor_terms.specs.Day.{IsDay, is_civil, number_of}

-- 1 January of the year 0
start : Date
start = record { year = pos 0; month = 1; day = 1; year_in = search rules; month_in = (lit≤ tt, lit≤ tt); day_in = (lit≤ tt, lit≤ tt) }

start_day : epoch_day start ≡ neg_ℤ (pos 719528)
unfolding start days_from_civil day_count days_of_years days_of_months
start_day = refl

below_start : (d : Date) → d.year <ℤ pos 0 → epoch_day d <ℤ neg_ℤ (pos 719528)
unfolding start
below_start d h = rw (← start_day) (epoch_day-lt d start (inl h))

pub year-from_IsDay : (d : Date) → IsDay (epoch_day d) → pos 0 ≤ℤ d.year
year-from_IsDay d h = grind (arith, ints, below_start d)

pub IsDay-from_year : (d : Date) → pos 0 ≤ℤ d.year → IsDay (epoch_day d)
unfolding start
IsDay-from_year d le = grind (arith, ints, start_day, cases_date start d, epoch_day-lt start d, epoch_day_same start d, epoch_day_range d, d.month_in, d.day_in)

-- ---- a date beside the test of its parts

is_civil-from_IsDate : (y m d : ℕ) → IsDate (pos y) (pos m) (pos d) → is_civil y m d ≡ true
is_civil-from_IsDate y m d h = grind (arith, nat_tests, ints)

pub number_of-date : (y m d : ℕ) (date : Date) (zy zm zd : ℤ) → zy ≡ pos y → zm ≡ pos m → zd ≡ pos d → IsDate zy zm zd → IsYmd zy zm zd date → number_of y m d ≡ Some (epoch_day date)
unfolding number_of
number_of-date y m d date zy zm zd ey em ed civil ymd =
    let im : date.month ≡ m = omega (arith, ints) in
    let id : date.day ≡ d = omega (arith, ints) in
    let ok = rw (ey, em, ed) at civil in
    rw (is_civil-from_IsDate y m d ok, ymd.0, ey, im, id) refl
