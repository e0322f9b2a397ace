-- A message, the head that an input begins with, and what the fields of a head say.
use Rattle.std.specs.Prelude.{◌≡◌, ◌≤◌, ◌+◌, ℕ, ◌==◌, ◌&&◌, nat_lt, Bool, List, [], length, take}
use Rattle.std.specs.Prelude.{map, find, count_by, Option, Some, None, if◌then◌else◌, nat_eq}
use Rattle.std.specs.List.{list_all}
use Rattle.std.specs.Option.{option_map}
use Rattle.std.specs.Char.{to_ascii_lowercase, is_ascii_digit}
use Rattle.std.specs.Cmp.Lexicographic.{pointwise}
use Rattle.httparse.specs.Grammar.{RequestHead, ReadsRequest}
use Rattle.httparse.specs.Spans.{name_and_value}
use Rattle.bor_http.specs.Incoming.Head.{head_end, head_limit, line_feeds, line_limit}

-- a field's name and its value
abbrev pub FieldText : Type 0
FieldText = List ℕ × List ℕ

-- the parts of a head
pub record Parts : Type 0 where
  pub method : List ℕ
  pub target : List ℕ
  pub fields : List FieldText

-- the parts of a head, and the body
pub record Message : Type 0 where
  pub parts : Parts
  pub body : List ℕ

-- ---- the head of an input

-- the parts of a head of httparse's grammar
abbrev pub parts_of : RequestHead → Parts
parts_of h = record { method = h.method; target = h.target; fields = map name_and_value h.fields }

-- The input begins with a head that has these parts: it ends within the limit, it has few enough
-- lines, and up to there the bytes are one head of the grammar of HTTP (RFC 9112) and nothing else.
pub record BeginsWith (input : List ℕ) (parts : Parts) : Type 0 where
  pub end : ℕ
  pub ends : head_end input ≡ Some end
  pub few_lines : line_feeds (take end input) ≤ line_limit
  pub head : RequestHead
  pub reads : ReadsRequest (take end input) head []
  pub parts_are : parts ≡ parts_of head

-- the input's head, taken apart; None where the input begins with none
abbrev pub IsTakenApart : List ℕ → Option Parts → Type 0
IsTakenApart input None = (parts : Parts) → ¬ (BeginsWith input parts)
IsTakenApart input (Some parts) = BeginsWith input parts

-- ---- its fields

-- the field has this name, in whichever case
abbrev pub is_named : List ℕ → FieldText → Bool
is_named name field =
    pointwise nat_eq (map to_ascii_lowercase field.0) (map to_ascii_lowercase name)

-- how many fields have the name
abbrev pub how_many : List ℕ → List FieldText → ℕ
how_many name fields = count_by (is_named name) fields

-- the value of the first field that has the name
abbrev pub first_value : List ℕ → List FieldText → Option (List ℕ)
first_value name fields = option_map (λ field. field.1) (find (is_named name) fields)

-- the value of the one field that has the name, if there is exactly one
abbrev pub only_value : List ℕ → List FieldText → Option (List ℕ)
only_value name fields = if how_many name fields == 1 then first_value name fields else None

-- ---- the body

-- one digit or more, and nothing else
abbrev pub is_numeral : List ℕ → Bool
is_numeral bytes = nat_lt 0 (length bytes) && list_all is_ascii_digit bytes

-- a body has at most this many bytes
abbrev pub body_limit : ℕ
body_limit = 1048576

-- at most this many bytes are taken of a reader: those of a head and of a body
abbrev pub request_limit : ℕ
request_limit = head_limit + body_limit
