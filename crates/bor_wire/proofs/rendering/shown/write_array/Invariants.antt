use Rattle.std.proofs.Common.{◌≡◌, ◌++◌, List, drop, map}
use Rattle.json.specs.Token.{Token}
use Rattle.json.specs.Tree.{items_tokens}
use Rattle.serde_json.specs.Data.{Data}
use Rattle.serde_json.specs.View.{items_of}
use Rattle.serde_json.specs.Written.{items_outline}
use Rattle.bor_wire.specs.Rendering.Parts.{data_tokens}
use Rattle.bor_wire.specs.Rendering.Values.{list_data}
use Rattle.bor_wire.proofs.rendering.shown.write_array.Given as goal

-- the rest of the tokens of an array, with the closing bracket
abbrev rest_tokens : {A : Type 0} → (A → Data) → List A → List Token
rest_tokens shown items = items_tokens (items_outline (items_of (map shown items)))

-- the tokens so far and the rest are the whole
abbrev pub invariant-loop-item : goal.invariant-loop-item
invariant-loop-item g l = record {
  tokens : l.out.tokens ++ rest_tokens g.T.Shown.as_data (drop l.item-index l.items) ≡ l.fn.out.tokens ++ data_tokens (list_data g.T.Shown.as_data l.items);
  before : l.out.before ≡ l.fn.out.before;
}
