use Rattle.bor.proofs.Told.{told_ok}
use Rattle.bor.proofs.host.HostPorts.open_to_serve.Goals as goal

pub returns-clause-ok : goal.returns-clause-ok
returns-clause-ok g c = told_ok _ _ c.filled_in.result _ c.told_of.ensures.told c.filled_in.ensures
