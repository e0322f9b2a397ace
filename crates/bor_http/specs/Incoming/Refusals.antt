-- The reading of an input: a message, or the first of the refusals that hold of its head and its
-- body, in the order of this table.
use Rattle.std.specs.Prelude.{◌≡◌, ℕ, ◌&&◌, ◌||◌, not, nat_lt, Bool, List, [], ◌∷◌, ◌++◌, length}
use Rattle.std.specs.Prelude.{take, drop, map, Option, Some, None, is_some, Result, if◌then◌else◌}
use Rattle.std.specs.Prelude.{codes}
use Rattle.std.specs.List.{filter, list_any}
use Rattle.std.specs.Option.{is_none}
use Rattle.std.specs.Str.Parse.{digits_value}
use Rattle.bor_terms.specs.Tables.{table, outcome}
use Rattle.bor_http.specs.declared.incoming.fault.Refusal.{Refusal}
use Rattle.bor_http.specs.declared.incoming.fault.Refusal.TheVariants.{HeadTooLarge, CutShort}
use Rattle.bor_http.specs.declared.incoming.fault.Refusal.TheVariants.{BadHead, BadLength}
use Rattle.bor_http.specs.declared.incoming.fault.Refusal.TheVariants.{BodyTooLarge}
use Rattle.bor_http.specs.Incoming.Head.{head_end, head_limit, line_limit, line_feeds}
use Rattle.bor_http.specs.Incoming.Message.{Parts, Message, FieldText, IsTakenApart, is_named}
use Rattle.bor_http.specs.Incoming.Message.{is_numeral, body_limit}

-- a line of the table: it refuses so where the condition holds
abbrev pub refuse : Refusal → Bool → List Refusal
refuse why holds = if holds then why ∷ [] else []

-- ---- 1 to 3: where the head ends, and whether it is one

-- none ends within the limit, of as many bytes; or the one that does has too many lines
abbrev pub is_too_large : List ℕ → Option ℕ → Bool
is_too_large input None = not (nat_lt (length input) head_limit)
is_too_large input (Some n) = nat_lt line_limit (line_feeds (take n input))

-- about an input, where its head ends, and the head taken apart
abbrev pub lines_of_head : List ℕ → Option ℕ → Option Parts → List Refusal
lines_of_head input end head =
    table (refuse HeadTooLarge (is_too_large input end)
    ∷ refuse CutShort (is_none end && nat_lt (length input) head_limit)
    ∷ refuse BadHead (is_some end && is_none head)
    ∷ [])

-- ---- 4 to 6: the length of the body, and whether the body is there

-- the values of the fields that have a name
abbrev pub values : List ℕ → List FieldText → List (List ℕ)
values name fields = map (λ field. field.1) (filter (is_named name) fields)

abbrev pub lengths : List FieldText → List (List ℕ)
lengths fields = values (codes "content-length") fields

-- one of the lengths is a number beyond this one
abbrev pub exceeds : ℕ → List (List ℕ) → Bool
exceeds limit lengths =
    list_any (λ value. is_numeral value && nat_lt limit (digits_value 10 value)) lengths

-- there is a transfer coding, more than one length, or a length that is no number
abbrev pub has_bad_length : List FieldText → Bool
has_bad_length fields =
    nat_lt 0 (length (values (codes "transfer-encoding") fields))
    || nat_lt 1 (length (lengths fields))
    || list_any (λ value. not (is_numeral value)) (lengths fields)

-- about a head with these fields, and what stands behind it
abbrev pub lines_of_body : List FieldText → List ℕ → List Refusal
lines_of_body fields rest =
    table (refuse BadLength (has_bad_length fields)
    ∷ refuse BodyTooLarge (exceeds body_limit (lengths fields))
    ∷ refuse CutShort (exceeds (length rest) (lengths fields))
    ∷ [])

-- ---- the message, and whether it is refused

-- the message behind a head: as many bytes as the first length says
abbrev pub stated_length : List (List ℕ) → ℕ
stated_length [] = 0
stated_length (value ∷ more) = digits_value 10 value

abbrev pub message_of : Parts → List ℕ → Message
message_of parts rest =
    record { parts = parts; body = take (stated_length (lengths parts.fields)) rest }

-- the message of an input whose head is taken apart so; where there is no head, anything
abbrev pub message_in : List ℕ → Option ℕ → Option Parts → Message
message_in input (Some n) (Some parts) = message_of parts (drop n input)
message_in input end head =
    record { parts = record { method = []; target = []; fields = [] }; body = [] }

-- all refusals that hold of it; behind what is no head there is nothing to look at
abbrev pub lines_of_input : List ℕ → Option ℕ → Option Parts → List Refusal
lines_of_input input (Some n) (Some parts) =
    lines_of_head input (Some n) (Some parts) ++ lines_of_body parts.fields (drop n input)
lines_of_input input end head = lines_of_head input end head

-- the reading of an input whose head is taken apart so
unfoldable pub message_read : List ℕ → Option Parts → Result Message Refusal
message_read input head =
    outcome (lines_of_input input (head_end input) head) (message_in input (head_end input) head)

-- the whole input is this message and whatever follows it, or is refused
abbrev pub IsMessage : List ℕ → Result Message Refusal → Type 0
IsMessage input read =
    (head : Option Parts) × IsTakenApart input head × (read ≡ message_read input head)
