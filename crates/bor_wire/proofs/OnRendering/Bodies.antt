-- The text that was written is that of the value.
use Rattle.std.proofs.Common.{◌≡◌, ℕ, List, [], ◌++◌, ap, ◌∙◌}
use Rattle.json.specs.Token.{Token}
use Rattle.json.specs.Print.{print}
use Rattle.serde_json.specs.Data.{Data}
use Rattle.serde_json.specs.Written.{compact_text}
use Rattle.serde_json.proofs.Texts.{print-outline}
use Rattle.bor_wire.specs.Rendering.Parts.{data_tokens}

-- where nothing stood before, and the tokens are those of the value
pub whole : (value : Data) (before text : List ℕ) (tokens : List Token) → before ≡ [] → tokens ≡ data_tokens value → text ≡ before ++ print tokens → text ≡ compact_text value
whole value before text tokens none are is = is ∙ ap (λ xs. xs ++ print tokens) none ∙ ap print are ∙ print-outline value
