use Rattle.bor_desk.proofs.OnOperations.Refusals.{refused_lodging, repeated_lodging, refused_withdrawal, repeated_withdrawal, refused_advance, refused_enrolment}
use Rattle.bor_desk.proofs.OnOperations.Renewals.{refused_renewal}
use Rattle.bor_desk.proofs.operations.laws.refusal_changes_nothing.Goals as goal

pub returns : goal.returns
returns c = record {
  of_lodging = refused_lodging;
  of_repeat = repeated_lodging;
  of_withdrawal = refused_withdrawal;
  of_withdrawn = repeated_withdrawal;
  of_advance = refused_advance;
  of_enrolment = refused_enrolment;
  of_renewal = refused_renewal;
}
