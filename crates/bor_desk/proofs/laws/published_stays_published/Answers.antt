use Rattle.bor_desk.proofs.Standing.{published_stays as law}
use Rattle.bor_desk.proofs.laws.published_stays_published.Goals as goal

pub returns : goal.returns
returns c = law
