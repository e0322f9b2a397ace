use Rattle.bor.proofs.Told.{told_comes}
use Rattle.bor.proofs.host.HostRegisters.open_or_set_up.Goals as goal

pub returns-clause-ok : goal.returns-clause-ok
returns-clause-ok g c =
    told_comes _ _ _ _ _ _ (λ register h. h) (λ register h. h) _ c.opened_in.result _ c.told_of.ensures.told c.opened_in.ensures
