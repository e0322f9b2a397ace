use Rattle.std.proofs.Common.{◌≡◌, ap, subst}
use Rattle.std.proofs.lemmas.Result.{IfOk-weaker}
use Rattle.sqlite.specs.Held.{state}
use Rattle.bor_records.specs.Links.ByKey.{node_at}
use Rattle.bor_store_keys.specs.declared.view.View.{View}
use Rattle.bor_store_keys.specs.Viewed.{rows_seen}
use Rattle.bor_store_keys.proofs.Holding.{of_found}
use Rattle.bor_store_keys.proofs.lookup.Lookup.node.Goals as goal

pub returns-in-Some : goal.returns-in-Some
returns-in-Some g c =
    let of = of_found (ap (state g.S.Store) c.self.view_is) c.in-Some.is c.self.invariant in
    IfOk-weaker c.node.result _ _
    (λ found h one is clean r shows. subst (λ (v : View). one ≡ node_at v.day c.args.node.now (rows_seen v r)) (c.is.ensures c.if-is.true) (h r one (of clean r shows) is))
    c.node.ensures
