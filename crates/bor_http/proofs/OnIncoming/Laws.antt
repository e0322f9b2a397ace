-- An input is one request, whatever stands behind it.
use Rattle.std.proofs.Common.{◌≡◌, ◌≢◌, ◌≤◌, ◌<◌, ℕ, List, ◌++◌, Option, Some, None, Bool, true, false, Result, Ok, Err, refl, sym, ap, ◌∙◌, take, drop, length, nat_lt, subst, append_assoc, length-append, take_all, arith}
use Rattle.std.specs.Prelude.{⊤}
use Rattle.std.specs.Option.{option_map_or}
use Rattle.std.proofs.lemmas.List.{take-append-drop, take-append-le, drop-append-le, length-take, length-take-le}
use Rattle.std.proofs.lemmas.Bool.{cond_both}
use Rattle.std.proofs.lemmas.Bool.Decides.{nat_tests}
use Rattle.bor_http.specs.declared.incoming.fault.Refusal.{Refusal}
use Rattle.bor_http.specs.declared.incoming.fault.Refusal.TheVariants.{HeadTooLarge, CutShort}
use Rattle.bor_http.specs.Incoming.Head.{head_len, line_feeds, line_limit, head_limit}
use Rattle.bor_http.specs.Incoming.Message.{Parts, Message}
use Rattle.bor_http.specs.Incoming.Steps.{HasParts, body_len}
use Rattle.bor_http.proofs.OnIncoming.Steps.{head_at, head_within, without_head, with_few_lines, IsAt, and_then, with_body, body_of, IsMessageBySteps}
use Rattle.bor_http.specs.Incoming.Refusals.{message_read, IsMessage}
use Rattle.bor_http.specs.Incoming.Laws.{OneRequest, RestIsIgnored}
use Rattle.bor_http.proofs.OnIncoming.ByTable.{one_head, to_steps, from_steps}
use Rattle.bor_http.proofs.OnIncoming.HeadLemmas.{head_len-le}
use Rattle.bor_http.proofs.OnIncoming.ReadingLemmas.{head-found, head-too_large, head-cut_short}

pub message_unique : OneRequest
message_unique input a b x y = x.2 ∙ ap (message_read input) (one_head input x.0 y.0 x.1 y.1) ∙ sym y.2

-- ---- the head ends where it ended

kept_found : (limit : ℕ) (buffer rest more : List ℕ) (n : ℕ) → length buffer ≤ limit → head_len buffer ≡ Some n
    → head_within limit ((buffer ++ rest) ++ more) ≡ head_within limit (buffer ++ rest)
kept_found limit buffer rest more n le e =
    rw append_assoc (head-found limit buffer (rest ++ more) n le e ∙ sym (head-found limit buffer rest n le e))

kept_large : (limit : ℕ) (buffer rest more : List ℕ) → length buffer ≡ limit → head_len buffer ≡ None
    → head_within limit ((buffer ++ rest) ++ more) ≡ head_within limit (buffer ++ rest)
kept_large limit buffer rest more is e =
    rw append_assoc (head-too_large limit buffer (rest ++ more) is e ∙ sym (head-too_large limit buffer rest is e))

head_kept : (limit : ℕ) (input more : List ℕ) → head_within limit input ≢ Err CutShort → head_within limit (input ++ more) ≡ head_within limit input
head_kept limit input more ne = by_end (head_len (take limit input)) refl
  where
    by_length : (short : Bool) → nat_lt (length input) limit ≡ short → head_len (take limit input) ≡ None
        → head_within limit (input ++ more) ≡ head_within limit input
    by_length true short none =
        let lt : length input < limit = grind (arith, nat_tests) in
        absurd (ne (head-cut_short limit input lt (sym (ap head_len (take_all limit input (omega arith))) ∙ none)))
    by_length false long none =
        let le : limit ≤ length input = grind (arith, nat_tests) in
        subst (λ xs. head_within limit (xs ++ more) ≡ head_within limit xs) (take-append-drop limit input)
        (kept_large limit (take limit input) (drop limit input) more (length-take-le limit input le) none)

    by_end : (end : Option ℕ) → head_len (take limit input) ≡ end → head_within limit (input ++ more) ≡ head_within limit input
    by_end None e = by_length (nat_lt (length input) limit) refl e
    by_end (Some n) e =
        subst (λ xs. head_within limit (xs ++ more) ≡ head_within limit xs) (take-append-drop limit input)
        (kept_found limit (take limit input) (drop limit input) more n (omega (arith, length-take limit input)) e)

-- the head lies in the input
IsInside : List ℕ → Result ℕ Refusal → Type 0
IsInside input (Ok n) = n ≤ length input
IsInside input (Err why) = ⊤

inside : (limit : ℕ) (input : List ℕ) → IsInside input (head_within limit input)
unfolding IsInside
inside limit input = by_end (head_len (take limit input)) refl
  where
    by_end : (end : Option ℕ) → head_len (take limit input) ≡ end → IsInside input (option_map_or (with_few_lines input) end (without_head limit input))
    by_end None e = cond_both (nat_lt (length input) limit) (Err CutShort) (Err HeadTooLarge) (IsInside input) (λ _. tt) (λ _. tt)
    by_end (Some n) e =
        cond_both (nat_lt line_limit (line_feeds (take n input))) (Err HeadTooLarge) (Ok n) (IsInside input) (λ _. tt)
        (λ _. omega (arith, head_len-le (take limit input) n e, length-take limit input))

-- ---- the body is the one it was

body_kept : (parts : Parts) (rest more : List ℕ) → with_body rest parts ≢ Err CutShort → with_body (rest ++ more) parts ≡ with_body rest parts
body_kept parts rest more ne = by_length (body_len parts.fields) ne
  where
    by_test : (n : ℕ) (short : Bool) → nat_lt (length rest) n ≡ short → body_of parts rest n ≢ Err CutShort → body_of parts (rest ++ more) n ≡ body_of parts rest n
    by_test n true e ne = absurd (ne (rw e refl))
    by_test n false e ne =
        let le : n ≤ length rest = grind (arith, nat_tests) in
        let long : nat_lt (length (rest ++ more)) n ≡ false = grind (arith, nat_tests, length-append {A = ℕ}) in
        rw (e, long, take-append-le n rest more le) refl

    by_length : (len : Result ℕ Refusal) → and_then (body_of parts rest) len ≢ Err CutShort
        → and_then (body_of parts (rest ++ more)) len ≡ and_then (body_of parts rest) len
    by_length (Err why) ne = refl
    by_length (Ok n) ne = by_test n (nat_lt (length rest) n) refl ne

parts_kept : (rest more : List ℕ) (parts : Result Parts Refusal) → and_then (with_body rest) parts ≢ Err CutShort
    → and_then (with_body (rest ++ more)) parts ≡ and_then (with_body rest) parts
parts_kept rest more (Err why) ne = refl
parts_kept rest more (Ok parts) ne = body_kept parts rest more ne

-- ---- an input that isn't cut short is what it is, whatever follows

kept : (input more : List ℕ) (at : Result ℕ Refusal) (read : Result Message Refusal) → IsInside input at → read ≢ Err CutShort → IsAt input at read
    → IsAt (input ++ more) at read
unfolding IsInside
kept input more (Err why) read le ne is = is
kept input more (Ok n) read le ne is = (
  is.0,
  subst (λ xs. HasParts xs is.0) (sym (take-append-le n input more le)) is.1,
  is.2
      ∙ sym (
      ap (λ rest. and_then (with_body rest) is.0) (drop-append-le n input more le)
      ∙ parts_kept (drop n input) more is.0 (λ cut. ne (is.2 ∙ cut))
      ),
)

cut_at : (input : List ℕ) (at : Result ℕ Refusal) (read : Result Message Refusal) → at ≡ Err CutShort → IsAt input at read → read ≡ Err CutShort
cut_at input at read cut is = subst (λ a. IsAt input a read) cut is

follows : (input more : List ℕ) (read : Result Message Refusal) → read ≢ Err CutShort → IsMessageBySteps input read → IsMessageBySteps (input ++ more) read
follows input more read ne is =
    let end : head_at (input ++ more) ≡ head_at input = head_kept head_limit input more (λ cut. ne (cut_at input (head_at input) read cut is)) in
    subst (λ at. IsAt (input ++ more) at read) (sym end) (kept input more (head_at input) read (inside head_limit input) ne is)

pub message_follows : (input more : List ℕ) (read : Result Message Refusal) → read ≢ Err CutShort → IsMessage input read → IsMessage (input ++ more) read
message_follows input more read ne is = from_steps (input ++ more) read (follows input more read ne (to_steps input read is))

pub rest_ignored : RestIsIgnored
rest_ignored input more m is = message_follows input more (Ok m) (λ cut. cc) is
