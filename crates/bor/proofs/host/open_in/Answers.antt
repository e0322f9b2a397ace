use Rattle.bor.proofs.Told.{told_of}
use Rattle.bor.proofs.host.open_in.Goals as goal

pub returns : goal.returns
returns g c =
    told_of _ _ _ _ c.open-opened.result c.opened.result c.opened.ensures (λ store found clean r held. (found clean r held, tt)) c.open-opened.ensures.found
