-- The reading of the whole input, from what was read of it.
use Rattle.std.proofs.Common.{◌≡◌, ◌≢◌, ◌≤◌, ◌<◌, length, drop, take, ℕ, List, ◌++◌, refl, sym, ap, ◌∙◌, arith, cond, subst, Option, Some, None, Result, Ok, Err, nat_lt, nat_le, codes}
use Rattle.std.specs.Option.{option_map_or}
use Rattle.std.specs.Str.Parse.{digits_value}
use Rattle.std.proofs.lemmas.Bool.{cond_both, le-ltb, leb-true, lt-ltb}
use Rattle.std.proofs.Math.Seq.{take-append_seam, drop-append_seam}
use Rattle.bor_http.specs.declared.incoming.fault.Refusal.{Refusal}
use Rattle.bor_http.specs.declared.incoming.fault.Refusal.TheVariants.{BadLength, BodyTooLarge, CutShort}
use Rattle.bor_http.specs.Incoming.Steps.{HasParts, body_len, length_of}
use Rattle.bor_http.proofs.OnIncoming.Steps.{head_at, IsAt, IsBehind, and_then, with_body, body_of}
use Rattle.bor_http.specs.Incoming.Refusals.{IsMessage}
use Rattle.bor_http.specs.Incoming.Message.{Parts, FieldText, is_numeral, how_many, first_value, body_limit}
use Rattle.bor_http.proofs.OnIncoming.ByTable.{from_steps}

-- with its head and what stands behind it, an input is what its parts make of it
pub message : (input head behind : List ℕ) (n : ℕ) (parts : Result Parts Refusal) → head_at input ≡ Ok n → input ≡ head ++ behind
    → length head ≡ n → HasParts head parts → IsMessage input (and_then (with_body behind) parts)
message input head behind n parts at is len has =
    let front : take n input ≡ head = ap (take n) is ∙ ap (λ k. take k (head ++ behind)) (sym len) ∙ take-append_seam head behind in
    let back : drop n input ≡ behind = ap (drop n) is ∙ ap (λ k. drop k (head ++ behind)) (sym len) ∙ drop-append_seam head behind in
    let here : IsBehind input n (and_then (with_body behind) parts) =
    (parts, subst (λ b. HasParts b parts) (sym front) has, ap (λ b. and_then (with_body b) parts) (sym back)) in
    let P : Result ℕ Refusal → Type 0 = λ a. IsAt input a (and_then (with_body behind) parts) in
    from_steps input (and_then (with_body behind) parts) (subst P (sym at) here)

pub body_short : (parts : Parts) (behind : List ℕ) (len : ℕ) → length behind < len → body_of parts behind len ≡ Err CutShort
body_short parts behind len lt = rw (lt-ltb (length behind) len lt) refl

pub body_there : (parts : Parts) (behind : List ℕ) (len : ℕ) → len ≤ length behind → body_of parts behind len ≡ Ok (record { parts = parts; body = take len behind })
body_there parts behind len le = rw (le-ltb (length behind) len le) refl

-- ---- lengths

-- a length that is announced is within the limit, and none is refused as what is cut short
abbrev IsLength : Result ℕ Refusal → Type 0
IsLength (Ok len) = len ≤ body_limit
IsLength (Err why) = why ≢ CutShort

by_value : (value : Option (List ℕ)) → IsLength (option_map_or (length_of body_limit) value (Ok 0))
by_value None = omega arith
by_value (Some bytes) =
    let n : ℕ = digits_value 10 bytes in
    cond_both (is_numeral bytes) (cond (nat_le n body_limit) (Ok n) (Err BodyTooLarge)) (Err BadLength) IsLength
    (λ _. cond_both (nat_le n body_limit) (Ok n) (Err BodyTooLarge) IsLength (λ le. leb-true n body_limit le) (λ _ e. cc)) (λ _ e. cc)

is_length : (fields : List FieldText) → IsLength (body_len fields)
is_length fields =
    let by_lengths : Result ℕ Refusal = option_map_or (length_of body_limit) (first_value (codes "content-length") fields) (Ok 0) in
    cond_both (nat_lt 0 (how_many (codes "transfer-encoding") fields)) (Err BadLength) (cond (nat_lt 1 (how_many (codes "content-length") fields)) (Err BadLength) by_lengths) IsLength
    (λ _ e. cc) (λ _. cond_both (nat_lt 1 (how_many (codes "content-length") fields)) (Err BadLength) by_lengths IsLength (λ _ e. cc) (λ _. by_value (first_value (codes "content-length") fields)))

pub body_len-le : (fields : List FieldText) (len : ℕ) → body_len fields ≡ Ok len → len ≤ body_limit
body_len-le fields len e = subst IsLength e (is_length fields)

pub never_short : (fields : List FieldText) → body_len fields ≡ Err CutShort → ⊥
never_short fields e = subst IsLength e (is_length fields) refl
