-- What is read of a text is a day of the years from 0 to 9999.
use Rattle.std.proofs.Common.{List, ℕ, arith}
use Rattle.std.specs.Prelude.{IfSome}
use Rattle.bor_terms.specs.Day.{IsDay, digits_day, day_of}
use Rattle.bor_terms.specs.Period.{month_start, month_end, year_start, year_end, start_of, end_of}
use Rattle.bor_terms.proofs.Spelling.{number_of-IsDay}

pub day_of-IsDay : (text : List ℕ) → IfSome (day_of text) IsDay
unfolding day_of digits_day
day_of-IsDay text = grind (arith, number_of-IsDay)

pub start_of-IsDay : (text : List ℕ) → IfSome (start_of text) IsDay
unfolding start_of month_start year_start
start_of-IsDay text = grind (arith, number_of-IsDay, day_of-IsDay text)

pub end_of-IsDay : (text : List ℕ) → IfSome (end_of text) IsDay
unfolding end_of month_end year_end
end_of-IsDay text = grind (arith, number_of-IsDay, day_of-IsDay text)
