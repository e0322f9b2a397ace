use Rattle.bor.proofs.Told.{told_ok}
use Rattle.bor.proofs.host.HostRegisters.open.Goals as goal

pub returns-clause-ok : goal.returns-clause-ok
returns-clause-ok g c = told_ok _ _ c.open_in.result _ c.told_of.ensures.told c.open_in.ensures
