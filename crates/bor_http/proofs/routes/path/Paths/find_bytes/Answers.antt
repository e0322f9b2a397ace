use Rattle.std.proofs.Common.{ap, refl, ◌∙◌}
use Rattle.std.proofs.lemmas.Bool.{false_from_ne_true}
use Rattle.std.proofs.lemmas.Str.{IsUtf8-from_is_utf8, is_utf8-from_IsUtf8}
use Rattle.bor_http.specs.Routes.Paths.{path_of, path_spelled}
use Rattle.bor_http.proofs.routes.path.Paths.find_bytes.Goals as goal

pub returns-in-Ok : goal.returns-in-Ok
unfolding path_spelled
returns-in-Ok c =
    let text = c.in-Ok.ensures.cases in
    rw (is_utf8-from_IsUtf8 c.args.bytes.now text.1) (c.find.ensures.value ∙ ap path_of text.0)

pub returns-in-Err : goal.returns-in-Err
unfolding path_spelled
returns-in-Err c = rw (false_from_ne_true _ (λ e. c.in-Err.ensures.cases.0 (IsUtf8-from_is_utf8 c.args.bytes.now e))) refl
