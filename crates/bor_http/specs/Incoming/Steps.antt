-- Parts of an input, one looked at after the other: each refuses, or the next is looked at. For
-- clauses of private functions alone, but for `◌>>=◌`, `parts_at` and `AreWithin`.
use Rattle.std.specs.Prelude.{◌≡◌, ℕ, ◌+◌, nat_lt, nat_le, List, [], length, drop, map}
use Rattle.std.specs.Prelude.{Result, Ok, Err, if◌then◌else◌, codes, All, ⊤}
use Rattle.std.specs.Option.{option_map, option_map_or}
use Rattle.std.specs.Str.Parse.{digits_value}
use Rattle.httparse.specs.Grammar.{RequestHead, ReadsRequest}
use Rattle.httparse.specs.declared.spans.Span.{Span}
use Rattle.httparse.specs.declared.spans.HeaderSpan.{HeaderSpan}
use Rattle.httparse.specs.Spans.{span_bytes, header_bytes, IsWithin, IsHeaderWithin}
use Rattle.bor_http.specs.Incoming.Head.{head_len}
use Rattle.bor_http.specs.Incoming.Message.{FieldText, Parts, parts_of, how_many}
use Rattle.bor_http.specs.Incoming.Message.{first_value, is_numeral, body_limit}
use Rattle.bor_http.specs.declared.incoming.fault.WireFault.{WireFault}
use Rattle.bor_http.specs.declared.incoming.fault.WireFault.TheVariants.{Refused, Read, Memory}
use Rattle.bor_http.specs.declared.incoming.fault.Refusal.{Refusal}
use Rattle.bor_http.specs.declared.incoming.fault.Refusal.TheVariants.{BadHead, BadLength}
use Rattle.bor_http.specs.declared.incoming.fault.Refusal.TheVariants.{BodyTooLarge}

-- go on with the value, or keep the refusal
infixl 10 ◌>>=◌
abbrev pub ◌>>=◌ : {A B : Type 0} → Result A Refusal → (A → Result B Refusal) → Result B Refusal
(Ok x) >>= f = f x
(Err r) >>= f = Err r

-- ---- where the head ends

-- the bytes behind these first ones say where the head ends
abbrev pub IsScanned : List ℕ → ℕ → Type 0
IsScanned bytes from = head_len bytes ≡ option_map (λ n. from + n) (head_len (drop from bytes))

-- ---- its parts

-- the parts that spans cover
abbrev pub parts_at : List ℕ → Span → Span → List HeaderSpan → Parts
parts_at head method target fields = record {
  method = span_bytes head method;
  target = span_bytes head target;
  fields = map (header_bytes head) fields;
}

-- the spans lie in the head
pub record AreWithin (head : List ℕ) (m t : Span) (fs : List HeaderSpan) : Type 0 where
  pub method : IsWithin (length head) m
  pub target : IsWithin (length head) t
  pub fields : All (IsHeaderWithin (length head)) fs

-- the parts of these bytes, where they are one head of the grammar and nothing else
abbrev pub HasParts : List ℕ → Result Parts Refusal → Type 0
HasParts head (Ok parts) = (h : RequestHead) × ReadsRequest head h [] × (parts ≡ parts_of h)
HasParts head (Err r) = (r ≡ BadHead) × ((h : RequestHead) → ¬ (ReadsRequest head h []))

-- the result of taking a head apart; it reads nothing
abbrev pub HeadFault : List ℕ → WireFault → Type 0
HeadFault head (Refused r) = HasParts head (Err r)
HeadFault head Read = ⊥
HeadFault head Memory = ⊤

abbrev pub HeadAnswers : {X : Type 0} → (X → Parts) → List ℕ → Result X WireFault → Type 0
HeadAnswers view head (Ok x) = HasParts head (Ok (view x))
HeadAnswers view head (Err e) = HeadFault head e

-- ---- the body

-- the number that a value of Content-Length gives
abbrev pub length_of : ℕ → List ℕ → Result ℕ Refusal
length_of limit bytes =
    if is_numeral bytes
    then (if nat_le (digits_value 10 bytes) limit then Ok (digits_value 10 bytes)
    else Err BodyTooLarge)
    else Err BadLength

-- the length of the body that follows a head with these fields
abbrev pub body_len : List FieldText → Result ℕ Refusal
body_len fields =
    if nat_lt 0 (how_many (codes "transfer-encoding") fields) then Err BadLength
    else (if nat_lt 1 (how_many (codes "content-length") fields) then Err BadLength
    else option_map_or (length_of body_limit) (first_value (codes "content-length") fields) (Ok 0))
