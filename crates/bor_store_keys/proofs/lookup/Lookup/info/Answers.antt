use Rattle.std.proofs.Common.{◌≡◌, ap, subst}
use Rattle.std.proofs.lemmas.Result.{IfOk-weaker}
use Rattle.sqlite.specs.Held.{state}
use Rattle.bor_records.specs.Links.Shown.{info_of}
use Rattle.bor_store_keys.specs.declared.view.View.{View}
use Rattle.bor_store_keys.specs.Viewed.{seen}
use Rattle.bor_store_keys.proofs.Holding.{of_found}
use Rattle.bor_store_keys.proofs.lookup.Lookup.info.Goals as goal

pub returns-in-Some : goal.returns-in-Some
returns-in-Some g c =
    let of = of_found (ap (state g.S.Store) c.self.view_is) c.in-Some.is c.self.invariant in
    IfOk-weaker c.info.result _ _
    (λ found h info is clean r shows. subst (λ (v : View). info ≡ info_of (seen v r) c.args.node.now) (c.is.ensures c.if-is.true) (h r info (of clean r shows) is))
    c.info.ensures
