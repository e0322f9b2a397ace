use Rattle.std.proofs.Common.{◌∙◌, sym, ap}
use Rattle.bor_store_keys.specs.declared.view.View.{View}
use Rattle.bor_store_keys.specs.Viewed.{seen}
use Rattle.bor_store_keys.proofs.found.Found.listed.Goals as goal

pub returns : goal.returns
returns c = λ r today is.
    let of = c.new-found.ensures.nothing r today in
    assumption (is ∙ ap (λ (v : View). seen v r) (sym c.new-found.ensures.view), of)
