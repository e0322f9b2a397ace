use Rattle.std.proofs.Common.{◌≡◌, ◌∙◌, sym, ap, refl, subst}
use Rattle.sqlite.specs.Held.{state}
use Rattle.bor_store_keys.specs.Finding.{Holds}
use Rattle.bor_store_keys.specs.Viewed.{seen}
use Rattle.bor_store_keys.specs.declared.view.View.{View}
use Rattle.bor_store_keys.proofs.Holding.{of_found}
use Rattle.bor_store_keys.proofs.lookup.Lookup.put_lists.Goals as goal

pub invariant_of-self : goal.invariant_of-self
invariant_of-self g c = λ clean r shows.
    let of = of_found refl (sym c.take.ensures.value ∙ c.in-Some.is) c.self.invariant clean r shows in
    let given = subst (λ h. Holds (state g.S.Store h) (λ r. c.args.lists.shown ≡ seen c.args.view.now r)) (sym c.self.view_is) c.requires in
    assumption (given clean r shows ∙ ap (λ (v : View). seen v r) (sym (c.is.ensures c.if-is.true)), of)
