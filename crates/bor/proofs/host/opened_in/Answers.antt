use Rattle.bor.proofs.Told.{found_or_made}
use Rattle.bor.proofs.host.opened_in.Goals as goal

pub returns : goal.returns
returns g c = found_or_made _ _ _ _ _ c.in_ok-conn.ensures.connected _ c.find_or_set_up.ensures
