use Rattle.std.proofs.Common.{◌≡◌, ℕ, List, true, subst}
use Rattle.std.specs.Str.{is_utf8}
use Rattle.std.proofs.lemmas.Str.{is_utf8-from_IsUtf8}
use Rattle.bor_store.proofs.forms.text_formed.Goals as goal

pub returns : goal.returns
returns c = subst (λ (text : List ℕ). is_utf8 text ≡ true) c.as_str-text.ensures.value (is_utf8-from_IsUtf8 c.as_str-text.result.now c.as_str-text.utf8)
