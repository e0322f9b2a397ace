use Rattle.bor_desk.proofs.OnOperations.Legality.{lodging-leaves_others, withdrawal-leaves_others, advance-keeps_agents, enrolment-keeps_agents}
use Rattle.bor_desk.proofs.OnOperations.Renewals.{renewal-renews_token}
use Rattle.bor_desk.proofs.operations.laws.own_filings_untouched.Goals as goal

pub returns : goal.returns
returns c = record { by_lodging = lodging-leaves_others; by_withdrawal = withdrawal-leaves_others; by_advance = advance-keeps_agents; by_enrolment = enrolment-keeps_agents; by_renewal = renewal-renews_token }
