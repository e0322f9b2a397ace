use Rattle.std.proofs.Common.{◌∙◌, Some, sym, ap, option_copied}
use Rattle.std.proofs.lemmas.Option.{same_Some}
use Rattle.bor_records.proofs.OnLinks.Stated.{row_open}
use Rattle.bor_store_keys.specs.Viewed.{rows_seen}
use Rattle.bor_store_keys.proofs.found.Found.info.Goals as goal

pub returns-in_ok-info_stated-in-Some-Some : goal.returns-in_ok-info_stated-in-Some-Some
returns-in_ok-info_stated-in-Some-Some c = λ r info of is.
    let view = c.args.self.now.view in
    let n = c.args.node.now in
    sym (same_Some _ _ is) ∙ c.in_ok-info_stated-in-Some-Some.ensures
    ∙ row_open view.day (rows_seen view r) n _ (of.rows n _ (sym c.get.ensures.value ∙ ap option_copied c.in-Some-Some.is ∙ ap Some c.in-Some-Some.field-0-is))
