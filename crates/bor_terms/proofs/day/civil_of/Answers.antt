use Rattle.std.proofs.Common.{FitsSigned, w32}
use Rattle.std.proofs.lemmas.Int.{to_z-of_z}
use Rattle.bor_terms.proofs.Years.{year-from_IsDay}
use Rattle.bor_terms.proofs.day.civil_of.Goals as goal

pub returns-clause-year : goal.returns-clause-year
returns-clause-year c =
    let fits : FitsSigned w32 c.args.number = c.ranges.number in
    year-from_IsDay c.date_of.result (rw (c.date_of.ensures, to_z-of_z) c.requires)
