use Rattle.std.proofs.Common.{refl}
use Rattle.bor_desk.specs.Operations.Outcomes.{of_withdrawal}
use Rattle.bor_desk.proofs.OnOperations.Stops.{stops_after}
use Rattle.bor_desk.proofs.operations.withdrawal.withdrawable.Goals as goal

pub returns-in_err-has_successor-clause-accounted : goal.returns-in_err-has_successor-clause-accounted
returns-in_err-has_successor-clause-accounted g c =
    stops_after g.K.Keep.meaning of_withdrawal _ _ _ c.from_residual-in_err-has_successor.result c.in_ok-line.ensures.kept c.in_ok-line.ensures.counts c.from_residual-in_err-has_successor.ensures.1 refl c.in_err-has_successor.ensures
