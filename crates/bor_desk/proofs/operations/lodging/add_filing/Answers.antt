use Rattle.bor_records.proofs.Sure.{sure_changes}
use Rattle.bor_desk.proofs.operations.lodging.add_filing.Goals as goal

pub returns : goal.returns
returns g c = sure_changes g.K.Keep.meaning c.requires c.add_filing.ensures
