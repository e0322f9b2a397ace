-- The reading of an input, one part looked at after the other: it is what the table says (`ByTable`).
use Rattle.std.specs.Prelude.{◌≡◌, ℕ, List, length, take, drop, nat_lt, Result, Ok, Err, if◌then◌else◌}
use Rattle.std.specs.Option.{option_map_or}
use Rattle.bor_http.specs.declared.incoming.fault.Refusal.{Refusal}
use Rattle.bor_http.specs.declared.incoming.fault.Refusal.TheVariants.{HeadTooLarge, CutShort}
use Rattle.bor_http.specs.Incoming.Head.{head_len, head_limit, line_feeds, line_limit}
use Rattle.bor_http.specs.Incoming.Message.{Message, Parts}
use Rattle.bor_http.specs.Incoming.Steps.{HasParts, body_len}

-- go on with the value, or keep the refusal
abbrev pub and_then : {A B : Type 0} → (A → Result B Refusal) → Result A Refusal → Result B Refusal
and_then f (Ok x) = f x
and_then f (Err r) = Err r

-- a head that was found has few enough lines
abbrev pub with_few_lines : List ℕ → ℕ → Result ℕ Refusal
with_few_lines bytes n =
    if nat_lt line_limit (line_feeds (take n bytes)) then Err HeadTooLarge else Ok n

-- no head ends within the limit
abbrev pub without_head : ℕ → List ℕ → Result ℕ Refusal
without_head limit input = if nat_lt (length input) limit then Err CutShort else Err HeadTooLarge

-- the length of the input's head, which is taken of its first bytes, at most limit
abbrev pub head_within : ℕ → List ℕ → Result ℕ Refusal
head_within limit input =
    option_map_or (with_few_lines input) (head_len (take limit input)) (without_head limit input)

abbrev pub head_at : List ℕ → Result ℕ Refusal
head_at input = head_within head_limit input

-- the first bytes after the head, as many as the fields say
abbrev pub body_of : Parts → List ℕ → ℕ → Result Message Refusal
body_of parts rest n =
    if nat_lt (length rest) n then Err CutShort
    else Ok (record { parts = parts; body = take n rest })

-- the bytes after a head with these parts
abbrev pub with_body : List ℕ → Parts → Result Message Refusal
with_body rest parts = and_then (body_of parts rest) (body_len parts.fields)

-- the reading of the input, with its first n bytes as its head
abbrev pub IsBehind : List ℕ → ℕ → Result Message Refusal → Type 0
IsBehind input n answer =
    (parts : Result Parts Refusal) × HasParts (take n input) parts
    × (answer ≡ and_then (with_body (drop n input)) parts)

abbrev pub IsAt : List ℕ → Result ℕ Refusal → Result Message Refusal → Type 0
IsAt input (Ok n) answer = IsBehind input n answer
IsAt input (Err r) answer = answer ≡ Err r

-- the whole input is this request and whatever follows it, or is refused
abbrev pub IsMessageBySteps : List ℕ → Result Message Refusal → Type 0
IsMessageBySteps input answer = IsAt input (head_at input) answer
