use Rattle.std.proofs.Common.{◌∙◌, Some, sym, ap, option_copied}
use Rattle.bor_store_keys.proofs.found.Found.placed.Goals as goal

pub returns-in_ok-copy-in-Some : goal.returns-in_ok-copy-in-Some
returns-in_ok-copy-in-Some c = λ r n of is. of.places c.args.at.now c.in-Some.node.now (sym c.get.ensures.value ∙ ap option_copied c.in-Some.is) ∙ ap Some (sym c.in_ok-copy-in-Some.ensures) ∙ is
