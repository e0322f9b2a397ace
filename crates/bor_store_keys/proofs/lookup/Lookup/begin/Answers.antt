use Rattle.std.proofs.Common.{Some, sym, subst}
use Rattle.sqlite.specs.Held.{state}
use Rattle.bor_store_keys.specs.Finding.{IsCurrent}
use Rattle.bor_store_keys.proofs.lookup.Lookup.begin.Goals as goal

pub invariant_of-self : goal.invariant_of-self
invariant_of-self g c =
    subst (λ h. IsCurrent (state g.S.Store h) (Some c.new.result)) (sym c.self.view_is) (λ clean r shows. c.new.ensures.nothing r (c.requires clean r shows))
