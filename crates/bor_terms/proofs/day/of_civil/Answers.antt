use Rattle.std.proofs.Common.{refl, sym, ap, ◌∙◌, arith, FitsSigned, to_z, w8, w16, w32, Some}
use Rattle.std.proofs.lemmas.Int.{ints, to_z-of_z, to_z_pos}
use Rattle.jiff_core.specs.Date.{epoch_day}
use Rattle.bor_terms.proofs.Years.{IsDay-from_year, number_of-date}
use Rattle.bor_terms.proofs.day.of_civil.Goals as goal

pub returns-in-Ok : goal.returns-in-Ok
returns-in-Ok c =
    let civil = c.in-Ok.ensures.succeeds.0 refl in
    let ymd = c.in-Ok.ensures.value in
    let fits : FitsSigned w32 c.to_unix_epoch_day.result = omega (arith, ints) in
    let y = to_z_pos w16 c.args.year (omega arith) in
    let m = to_z_pos w8 c.args.month (omega arith) in
    let d = to_z_pos w8 c.args.day (omega arith) in
    let is = number_of-date c.args.year c.args.month c.args.day c.in-Ok.date (to_z w16 c.args.year) (to_z w8 c.args.month) (to_z w8 c.args.day) y m d civil ymd in
    let n = c.to_unix_epoch_day.ensures.value ∙ ap epoch_day c.to_plain.ensures in
    rw (to_z-of_z w32 c.to_unix_epoch_day.result fits) (ap Some n ∙ sym is)

pub invariant_of-result : goal.invariant_of-result
invariant_of-result c =
    let ymd = c.in-Ok.ensures.value in
    let fits : FitsSigned w32 c.to_unix_epoch_day.result = omega (arith, ints) in
    let y = to_z_pos w16 c.args.year (omega arith) in
    let n = c.to_unix_epoch_day.ensures.value ∙ ap epoch_day c.to_plain.ensures in
    rw (to_z-of_z w32 c.to_unix_epoch_day.result fits, n) (IsDay-from_year c.in-Ok.date (omega (arith, ints, ymd.0, y)))
