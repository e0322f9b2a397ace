use Rattle.bor_desk.proofs.OnOperations.Legality.{empty-legal, lodging-stays_legal, withdrawal-stays_legal, advance-stays_legal, enrolment-stays_legal}
use Rattle.bor_desk.proofs.OnOperations.Renewals.{renewal-stays_legal}
use Rattle.bor_desk.proofs.operations.laws.legal_stays_legal.Goals as goal

pub returns : goal.returns
returns c = record { at_first = empty-legal; by_lodging = lodging-stays_legal; by_withdrawal = withdrawal-stays_legal; by_advance = advance-stays_legal; by_enrolment = enrolment-stays_legal; by_renewal = renewal-stays_legal }
