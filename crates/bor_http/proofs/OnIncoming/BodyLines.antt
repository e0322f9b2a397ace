-- The length of a body, and what the table says of it.
use Rattle.std.proofs.Common.{◌≡◌, ℕ, List, [], ◌∷◌, length, take, Option, Some, None, Ok, Err, Bool, true, false, suc, not, ◌&&◌, ◌||◌, refl, sym, ap, ◌∙◌, arith, codes}
use Rattle.std.specs.Prelude.{Result, nat_lt, nat_le, if◌then◌else◌}
use Rattle.std.specs.List.{filter, list_any}
use Rattle.std.specs.Option.{option_map_or}
use Rattle.std.specs.Str.Parse.{digits_value}
use Rattle.std.proofs.lemmas.Bool.Decides.{nat_tests}
use Rattle.std.proofs.lemmas.List.{length-map}
use Rattle.std.proofs.lemmas.List.Sums.{length-filter}
use Rattle.bor_terms.specs.Tables.{table, outcome}
use Rattle.bor_http.specs.declared.incoming.fault.Refusal.{Refusal}
use Rattle.bor_http.specs.declared.incoming.fault.Refusal.TheVariants.{BadLength, BodyTooLarge, CutShort}
use Rattle.bor_http.specs.Incoming.Message.{Parts, Message, FieldText, is_named, is_numeral, how_many, first_value, body_limit}
use Rattle.bor_http.specs.Incoming.Refusals.{refuse, values, lengths, exceeds, lines_of_body, stated_length, message_of}
use Rattle.bor_http.specs.Incoming.Steps.{length_of, body_len}
use Rattle.bor_http.proofs.OnIncoming.Steps.{and_then, body_of, with_body}

-- ---- the values of fields

first_of : List (List ℕ) → Option (List ℕ)
first_of [] = None
first_of (value ∷ more) = Some value

how_many_values : (name : List ℕ) (fields : List FieldText) → how_many name fields ≡ length (values name fields)
how_many_values name fields = sym (length-map (filter (is_named name) fields) (λ (field : FieldText). field.1) ∙ length-filter (is_named name) fields)

first_value_is : (name : List ℕ) (fields : List FieldText) → first_value name fields ≡ first_of (values name fields)
unfolding first_of
first_value_is name [] = refl
first_value_is name (field ∷ fields) = grind (arith, first_value_is name fields)

-- ---- the lines

-- the length by the values of the two fields
length_by : ℕ → List (List ℕ) → Result ℕ Refusal
length_by encodings lengths =
    if nat_lt 0 encodings then Err BadLength
    else (if nat_lt 1 (length lengths) then Err BadLength else option_map_or (length_of body_limit) (first_of lengths) (Ok 0))

body_len_is : (fields : List FieldText) → body_len fields ≡ length_by (length (values (codes "transfer-encoding") fields)) (lengths fields)
unfolding length_by
body_len_is fields =
    rw (how_many_values (codes "transfer-encoding") fields, how_many_values (codes "content-length") fields, first_value_is (codes "content-length") fields) refl

lt_from_le : (n limit : ℕ) → nat_le n limit ≡ not (nat_lt limit n)
lt_from_le n limit = grind (arith, nat_tests)

-- no length, or one that is a number, is too large, or goes beyond what there is
one_length : (is_number is_large is_beyond : Bool) (n : ℕ) (m : Message) (body : ℕ → Result Message Refusal)
    → body n ≡ (if is_beyond then Err CutShort else Ok m)
    → and_then body (if is_number then (if not is_large then Ok n else Err BodyTooLarge) else Err BadLength)
    ≡ outcome
    (table (refuse BadLength (not is_number || false) ∷ refuse BodyTooLarge ((is_number && is_large) || false)
    ∷ refuse CutShort ((is_number && is_beyond) || false) ∷ []))
    m
one_length false is_large is_beyond n m body e = refl
one_length true true is_beyond n m body e = refl
one_length true false true n m body e = e
one_length true false false n m body e = e

two_lengths : (n : ℕ) → nat_lt 1 (suc (suc n)) ≡ true
two_lengths n = grind (arith, nat_tests)

none_below : (n : ℕ) → nat_lt n 0 ≡ false
none_below n = grind (arith, nat_tests)

by_values : (encoded : Bool) (parts : Parts) (rest : List ℕ) (ls : List (List ℕ))
    → and_then (body_of parts rest)
    (if encoded then Err BadLength
    else (if nat_lt 1 (length ls) then Err BadLength else option_map_or (length_of body_limit) (first_of ls) (Ok 0)))
    ≡ outcome
    (table (refuse BadLength (encoded || nat_lt 1 (length ls) || list_any (λ value. not (is_numeral value)) ls)
    ∷ refuse BodyTooLarge (exceeds body_limit ls) ∷ refuse CutShort (exceeds (length rest) ls) ∷ []))
    (record { parts = parts; body = take (stated_length ls) rest })
unfolding first_of
by_values true parts rest ls = refl
by_values false parts rest [] = rw (none_below (length rest)) refl
by_values false parts rest (value ∷ []) =
    rw (lt_from_le (digits_value 10 value) body_limit)
    (one_length (is_numeral value) (nat_lt body_limit (digits_value 10 value)) (nat_lt (length rest) (digits_value 10 value)) (digits_value 10 value)
    (record { parts = parts; body = take (digits_value 10 value) rest }) (body_of parts rest) refl)
by_values false parts rest (value ∷ other ∷ more) = rw (two_lengths (length more)) refl

pub body_is : (parts : Parts) (rest : List ℕ) → with_body rest parts ≡ outcome (lines_of_body parts.fields rest) (message_of parts rest)
unfolding length_by
body_is parts rest =
    ap (and_then (body_of parts rest)) (body_len_is parts.fields)
    ∙ by_values (nat_lt 0 (length (values (codes "transfer-encoding") parts.fields))) parts rest (lengths parts.fields)
