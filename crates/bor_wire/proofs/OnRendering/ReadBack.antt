-- Values of JSON with the same text are the same value, but for their floats.
use Rattle.std.proofs.Common.{◌≡◌, ℕ, max, [], ◌++◌, Some, sym, ap, ◌∙◌, arith}
use Rattle.std.proofs.lemmas.Option.{some_pair_parts}
use Rattle.json.specs.Lex.{tokens}
use Rattle.json.specs.Json.{Json, value}
use Rattle.json.specs.Tree.{json_tokens, depth, HasNumbers}
use Rattle.json.proofs.Printed.Tokens.{tokens-print}
use Rattle.json.proofs.Printed.Trees.{value-json_tokens, ArePrintable-json_tokens}
use Rattle.serde_json.specs.Data.{Data}
use Rattle.serde_json.specs.Written.{compact_text, outline}
use Rattle.serde_json.proofs.Texts.{print-outline}

-- the tokens of a value are read back
tokens_back : (a : Data) → HasNumbers (outline a) → tokens (compact_text a) ≡ json_tokens (outline a)
tokens_back a h = ap tokens (sym (print-outline a)) ∙ tokens-print (json_tokens (outline a)) (ArePrintable-json_tokens (outline a) h)

json_once : (a b : Json) → json_tokens a ≡ json_tokens b → a ≡ b
json_once a b same =
    let d : ℕ = max (depth a) (depth b) in
    let one : value d (json_tokens a ++ []) ≡ Some (a, []) = value-json_tokens a d [] (omega arith) in
    let two : value d (json_tokens b ++ []) ≡ Some (b, []) = value-json_tokens b d [] (omega arith) in
    (some_pair_parts a b [] [] (sym one ∙ ap (λ ts. value d (ts ++ [])) same ∙ two)).0

pub same_text : (a b : Data) → HasNumbers (outline a) → HasNumbers (outline b) → compact_text a ≡ compact_text b → outline a ≡ outline b
same_text a b h k same = json_once (outline a) (outline b) (sym (tokens_back a h) ∙ ap tokens same ∙ tokens_back b k)
