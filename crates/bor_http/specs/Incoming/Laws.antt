-- Laws of what an input says.
use Rattle.std.specs.Prelude.{◌≡◌, ℕ, List, ◌++◌, Result, Ok}
use Rattle.bor_http.specs.declared.incoming.fault.Refusal.{Refusal}
use Rattle.bor_http.specs.Incoming.Message.{Message}
use Rattle.bor_http.specs.Incoming.Refusals.{IsMessage}

-- An input is one request, or is refused as one thing.
abbrev pub OneRequest : Type 0
OneRequest =
    (input : List ℕ) (a b : Result Message Refusal) → IsMessage input a → IsMessage input b → a ≡ b

-- The bytes behind the body of a request have no part in it.
abbrev pub RestIsIgnored : Type 0
RestIsIgnored =
    (input more : List ℕ) (m : Message) → IsMessage input (Ok m) → IsMessage (input ++ more) (Ok m)
