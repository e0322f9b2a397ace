use Rattle.std.proofs.Common.{rules, inr}
use Rattle.bor_program.proofs.Ends.{keeps_same}
use Rattle.bor_program.proofs.Replies.{tells_err}
use Rattle.bor_program.proofs.report.report_on.Goals as goal

pub returns-in_err-text-clause-told : goal.returns-in_err-text-clause-told
returns-in_err-text-clause-told g c = tells_err _ _ _ c.from_residual.result (search rules) (inr (keeps_same _))

pub returns-clause-told : goal.returns-clause-told
returns-clause-told g c = (c.in_ok-text.text, c.in_ok-text.ensures.text, record { text = search rules; told = c.text_status.ensures })
