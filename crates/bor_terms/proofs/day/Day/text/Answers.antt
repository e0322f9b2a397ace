use Rattle.std.proofs.Common.{◌≡◌, ◌≤◌, length, refl, sym, ap, ◌∙◌, pos, arith, FitsSigned, w16, w32, Some}
use Rattle.std.specs.Prelude.{unsigned_abs}
use Rattle.std.proofs.lemmas.Int.{ints, to_z-of_z}
use Rattle.jiff_core.specs.Calendar.{days_from_civil, IsDate, IsCivilDate}
use Rattle.jiff_core.proofs.CalendarLemmas.{days_in_month_bounds}
use Rattle.bor_terms.specs.Day.{day_of, day_text, IsSpelling}
use Rattle.bor_terms.proofs.Years.{number_of-date}
use Rattle.bor_terms.proofs.DayTexts.{civil_text-named, day_text-civil}
use Rattle.bor_terms.proofs.Spelling.{one_spelling}
use Rattle.bor_terms.proofs.day.Day.text.Goals as goal

pub returns : goal.returns
returns c =
    let date = c.civil_of-date.result in
    let y = unsigned_abs date.year in
    let small : FitsSigned w32 c.self.inside.number = omega (arith, ints, c.self.invariant) in
    let number = simp to_z-of_z at c.civil_of-date.ensures.number in
    let year : date.year ≡ pos y = omega (arith, ints, c.civil_of-date.ensures.year) in
    let fits : FitsSigned w16 date.year = omega (arith, ints, date.year_in) in
    let few : y ≤ 9999 = omega (arith, ints, date.year_in) in
    let spelled = simp to_z-of_z at c.spell.ensures in
    let civil : IsCivilDate (pos y) date.month date.day = rw (← year) (date.year_in, date.month_in, date.day_in) in
    let same : days_from_civil (pos y) date.month date.day ≡ c.args.self = rw (← year) (number ∙ c.self.view_is) in
    let value : c.spell.result ≡ day_text c.args.self = spelled ∙ sym (day_text-civil y date.month date.day few civil) ∙ ap day_text same in
    let is_date : IsDate date.year (pos date.month) (pos date.day) = (date.year_in, (omega (arith, ints, date.month_in), omega (arith, ints, date.month_in)), (omega (arith, ints, date.day_in), omega (arith, ints, date.day_in))) in
    let is = number_of-date y date.month date.day date date.year (pos date.month) (pos date.day) year refl refl is_date (refl, refl, refl) in
    let reads : day_of c.spell.result ≡ Some c.args.self =
    ap day_of spelled ∙ civil_text-named y date.month date.day (omega arith) (omega (arith, date.month_in)) (omega (arith, date.day_in, days_in_month_bounds date.year date.month)) ∙ is ∙ ap Some (number ∙ c.self.view_is) in
    let spelling : IsSpelling c.args.self c.spell.result = (ap length spelled, reads) in
    record { value = value; spelling = spelling; only_one = λ other named. one_spelling other c.spell.result c.args.self named spelling }
