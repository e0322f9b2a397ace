use Rattle.std.proofs.Common.{◌∙◌, refl}
use Rattle.bor_records.proofs.KeptLaws.{kept_then, lasts_then}
use Rattle.bor_desk.specs.Operations.Outcomes.{of_lodging}
use Rattle.bor_desk.proofs.OnOperations.Stops.{stops_later}
use Rattle.bor_desk.proofs.operations.lodging.prepare.Goals as goal

pub returns-in_err-day-clause-accounted : goal.returns-in_err-day-clause-accounted
returns-in_err-day-clause-accounted g c =
    let count = c.in_ok-count.ensures in
    stops_later g.K.Keep.meaning of_lodging _ _ _ c.from_residual-in_err-day.result count.kept count.accounted.counted count.accounted.lasts c.in_err-day.ensures.kept.began c.from_residual-in_err-day.ensures.1 refl c.in_err-day.ensures.accounted

pub returns-in_err-statements-clause-accounted : goal.returns-in_err-statements-clause-accounted
returns-in_err-statements-clause-accounted g c =
    let meaning = g.K.Keep.meaning in
    let count = c.in_ok-count.ensures in
    let day = c.in_ok-day.ensures in
    stops_later meaning of_lodging _ _ _ c.from_residual-in_err-statements.result (kept_then meaning _ _ _ count.kept day.kept) (day.accounted.counted ∙ count.accounted.counted)
    (lasts_then meaning _ _ _ count.accounted.lasts day.accounted.lasts) c.in_err-statements.ensures.kept.began c.from_residual-in_err-statements.ensures.1 refl c.in_err-statements.ensures.accounted
