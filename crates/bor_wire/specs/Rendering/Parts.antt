-- Bodies part by part, as they are written: for private clauses.
use Rattle.std.specs.Prelude.{◌≡◌, ℕ, List, [], ◌∷◌, ◌++◌, Option, Some, None, Result, OnOk, codes}
use Rattle.std.specs.Prelude.{decimal}
use Rattle.json.specs.Print.{quoted}
use Rattle.json.specs.Token.{Token, key, string}
use Rattle.json.specs.Tree.{json_tokens}
use Rattle.json.specs.Written.{Written}
use Rattle.serde_json.specs.Data.{Data}
use Rattle.serde_json.specs.Written.{outline}
use Rattle.bods_read.specs.Words.{type_word, type_of, status_word}
use Rattle.bor_records.specs.declared.row.Entry.{Entry}
use Rattle.bor_records.specs.declared.links.node.Node.{Node}

-- ---- token by token

-- the tokens of a value of JSON
abbrev pub data_tokens : Data → List Token
data_tokens d = json_tokens (outline d)

-- the agent and the declaration of a record
abbrev pub declaration_tokens : Node → List Token
declaration_tokens n =
    key (codes "agent") ∷ string n.agent ∷ key (codes "declaration") ∷ string n.declaration ∷ []

-- the texts that an open record ends with
abbrev pub label_tokens : Entry → List Token
label_tokens e =
    let s = e.statement in
    key (codes "id") ∷ string s.id
    ∷ key (codes "record") ∷ string s.rec
    ∷ key (codes "status") ∷ string (status_word e.status)
    ∷ key (codes "type") ∷ string (type_word (type_of s.details)) ∷ []

-- These tokens were written behind the others, and what stands before them all stays.
pub record WritesBehind {E : Type 0} (result : Result (Unit {0}) E) (old new : Written)
    (added : List Token) : Type 0 where
  pub tokens : OnOk result (new.tokens ≡ old.tokens ++ added)
  pub before : new.before ≡ old.before

-- ---- byte by byte

abbrev pub field_member : Option (List ℕ) → List ℕ
field_member None = []
field_member (Some field) = codes "\"field\":" ++ (quoted field ++ codes ",")

abbrev pub place_member : Option ℕ → List ℕ
place_member None = []
place_member (Some place) = codes "\"place\":" ++ (decimal place ++ codes ",")
