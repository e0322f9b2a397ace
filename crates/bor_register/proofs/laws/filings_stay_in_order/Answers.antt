use Rattle.bor_register.proofs.Journals.{filings_stay}
use Rattle.bor_register.proofs.laws.filings_stay_in_order.Goals as goal

pub returns : goal.returns
returns c = filings_stay
