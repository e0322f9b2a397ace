use Rattle.std.proofs.Common.{◌∙◌, ap, sym}
use Rattle.std.proofs.lemmas.Result.{IfOk-weaker}
use Rattle.bor_terms.specs.Texts.{is_token}
use Rattle.bor_wire.specs.Spelling.Parts.{fitting}
use Rattle.bor_wire.proofs.OnSpelling.Texts.{text_in-text, text_in-other}
use Rattle.bor_program.proofs.registrar.token_of.Goals as goal

pub returns-in-Ok : goal.returns-in-Ok
returns-in-Ok c =
    let text = c.in-Ok.ensures.cases in
    IfOk-weaker c.read.result _ _ (λ found h. h ∙ ap (fitting is_token) text.0 ∙ sym (text_in-text is_token c.args.bytes.now text.1)) c.read.ensures.value

pub returns-in-Err : goal.returns-in-Err
returns-in-Err c = sym (text_in-other is_token c.args.bytes.now c.in-Err.ensures.cases.0)
