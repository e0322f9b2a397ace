use Rattle.std.proofs.Common.{ap}
use Rattle.std.proofs.lemmas.Result.{IfOk-weaker}
use Rattle.sqlite.specs.Held.{state}
use Rattle.bor_store_keys.proofs.Holding.{of_found}
use Rattle.bor_store_keys.proofs.lookup.Lookup.placed.Goals as goal

pub returns-in-Some : goal.returns-in-Some
returns-in-Some g c =
    let of = of_found (ap (state g.S.Store) c.self.view_is) c.in-Some.is c.self.invariant in
    IfOk-weaker c.placed.result _ _ (λ found h n is clean r shows. h r n (of clean r shows) is) c.placed.ensures
