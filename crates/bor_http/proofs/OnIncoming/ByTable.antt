-- The reading of an input, one part looked at after the other, is that of the table.
use Rattle.std.proofs.Common.{◌≡◌, ◌≤◌, ℕ, List, [], ◌∷◌, ◌++◌, length, take, drop, Option, Some, None, Ok, Err, Bool, true, false, not, ◌&&◌, refl, sym, ap, subst, ◌∙◌, arith}
use Rattle.std.specs.Prelude.{Result, nat_lt, if◌then◌else◌}
use Rattle.std.specs.Option.{option_map_or, is_none}
use Rattle.std.proofs.lemmas.Bool.{cond_both, ltb-false, ltb-true}
use Rattle.std.proofs.lemmas.Option.{none-some, same_Some}
use Rattle.httparse.specs.Grammar.{ReadsRequest}
use Rattle.httparse.proofs.GrammarLemmas.{request_unique}
use Rattle.bor_terms.specs.Tables.{table, outcome}
use Rattle.bor_http.specs.declared.incoming.fault.Refusal.{Refusal}
use Rattle.bor_http.specs.declared.incoming.fault.Refusal.TheVariants.{HeadTooLarge, CutShort, BadHead}
use Rattle.bor_http.specs.Incoming.Head.{head_end, head_limit, line_limit, line_feeds}
use Rattle.bor_http.specs.Incoming.Message.{Parts, Message, IsTakenApart, parts_of}
use Rattle.bor_http.specs.Incoming.Refusals.{refuse, lines_of_body, lines_of_input, message_in, message_of, message_read, IsMessage}
use Rattle.bor_http.specs.Incoming.Steps.{HasParts}
use Rattle.bor_http.proofs.OnIncoming.Steps.{and_then, with_few_lines, without_head, head_at, with_body, IsAt, IsMessageBySteps}
use Rattle.bor_http.proofs.OnIncoming.BodyLines.{body_is}

-- the parts of a head, or that it is none
abbrev or_bad_head : Option Parts → Result Parts Refusal
or_bad_head None = Err BadHead
or_bad_head (Some parts) = Ok parts

-- the message of an input whose head ends there, or doesn't, and is taken apart so
unfoldable message_at : List ℕ → Result ℕ Refusal → Option Parts → Result Message Refusal
message_at input (Ok n) head = and_then (with_body (drop n input)) (or_bad_head head)
message_at input (Err why) head = Err why

-- ---- the table refuses as the steps do

without : (input : List ℕ) (is_short : Bool) (head : Option Parts) (any : Message)
    → outcome (table (refuse HeadTooLarge (not is_short) ∷ refuse CutShort (true && is_short) ∷ refuse BadHead (false && is_none head) ∷ [])) any
    ≡ message_at input (if is_short then Err CutShort else Err HeadTooLarge) head
unfolding message_at
without input true head any = refl
without input false head any = refl

no_head : (input : List ℕ) (n : ℕ) (has_many : Bool) (any : Message)
    → outcome (table (refuse HeadTooLarge has_many ∷ refuse CutShort (false && nat_lt (length input) head_limit) ∷ refuse BadHead (true && true) ∷ [])) any
    ≡ message_at input (if has_many then Err HeadTooLarge else Ok n) None
unfolding message_at
no_head input n true any = refl
no_head input n false any = refl

within : (input : List ℕ) (n : ℕ) (has_many : Bool) (parts : Parts)
    → outcome
    (table (refuse HeadTooLarge has_many ∷ refuse CutShort (false && nat_lt (length input) head_limit) ∷ refuse BadHead (true && false) ∷ [])
    ++ lines_of_body parts.fields (drop n input))
    (message_of parts (drop n input))
    ≡ message_at input (if has_many then Err HeadTooLarge else Ok n) (Some parts)
unfolding message_at
within input n true parts = refl
within input n false parts = sym (body_is parts (drop n input))

at_end : (input : List ℕ) (end : Option ℕ) (head : Option Parts)
    → outcome (lines_of_input input end head) (message_in input end head)
    ≡ message_at input (option_map_or (with_few_lines input) end (without_head head_limit input)) head
at_end input None head = without input (nat_lt (length input) head_limit) head (message_in input None head)
at_end input (Some n) None = no_head input n (nat_lt line_limit (line_feeds (take n input))) (message_in input (Some n) None)
at_end input (Some n) (Some parts) = within input n (nat_lt line_limit (line_feeds (take n input))) parts

message_is : (input : List ℕ) (head : Option Parts) → message_read input head ≡ message_at input (head_at input) head
unfolding message_read
message_is input head = at_end input (head_end input) head

-- ---- an input begins with one head

same_end : (input : List ℕ) (a b : ℕ) → head_end input ≡ Some a → head_end input ≡ Some b → a ≡ b
same_end input a b x y = same_Some a b (sym x ∙ y)

pub one_head : (input : List ℕ) (a b : Option Parts) → IsTakenApart input a → IsTakenApart input b → a ≡ b
one_head input None None x y = refl
one_head input None (Some b) x y = absurd (x b y)
one_head input (Some a) None x y = absurd (y a x)
one_head input (Some a) (Some b) x y =
    let end : y.end ≡ x.end = same_end input y.end x.end y.ends x.ends in
    let reads : ReadsRequest (take x.end input) y.head [] = subst (λ n. ReadsRequest (take n input) y.head []) end y.reads in
    ap Some (x.parts_are ∙ ap parts_of (request_unique (take x.end input) x.head y.head [] [] x.reads reads).0 ∙ sym y.parts_are)

-- ---- the head that an input begins with is the one that is looked at

-- where a head ends there: its length, or why it is none
abbrev ending : List ℕ → Option ℕ → Result ℕ Refusal
ending input end = option_map_or (with_few_lines input) end (without_head head_limit input)

has_parts : (input : List ℕ) (n : ℕ) (head : Option Parts) → head_end input ≡ Some n → line_feeds (take n input) ≤ line_limit → IsTakenApart input head
    → HasParts (take n input) (or_bad_head head)
has_parts input n None ends lines apart = (
  refl,
  λ h reads. apart (parts_of h) (record { end = n; ends = ends; few_lines = lines; head = h; reads = reads; parts_are = refl }),
)
has_parts input n (Some parts) ends lines apart = (
  apart.head,
  subst (λ k. ReadsRequest (take k input) apart.head []) (same_end input apart.end n apart.ends ends) apart.reads,
  apart.parts_are,
)

is_ended : (input : List ℕ) (end : Option ℕ) (head : Option Parts) → head_end input ≡ end → IsTakenApart input head
    → IsAt input (ending input end) (message_at input (ending input end) head)
unfolding message_at
is_ended input None head ends apart =
    cond_both (nat_lt (length input) head_limit) (Err CutShort) (Err HeadTooLarge) (λ at. IsAt input at (message_at input at head)) (λ _. refl) (λ _. refl)
is_ended input (Some n) head ends apart =
    cond_both (nat_lt line_limit (line_feeds (take n input))) (Err HeadTooLarge) (Ok n) (λ at. IsAt input at (message_at input at head)) (λ _. refl)
    (λ few. (or_bad_head head, has_parts input n head ends (ltb-false line_limit (line_feeds (take n input)) few) apart, refl))

is_message : (input : List ℕ) (head : Option Parts) → IsTakenApart input head → IsMessageBySteps input (message_at input (head_at input) head)
is_message input head apart = is_ended input (head_end input) head refl apart

-- the input begins with a head, or with none, and is what that head makes of it
abbrev MadeOf : List ℕ → Result ℕ Refusal → Result Message Refusal → Type 0
MadeOf input at read = (head : Option Parts) × IsTakenApart input head × (read ≡ message_at input at head)

made : (input : List ℕ) (end : Option ℕ) (read : Result Message Refusal) → head_end input ≡ end → IsAt input (ending input end) read
    → MadeOf input (ending input end) read
unfolding message_at
made input None read ends is =
    let none : IsTakenApart input None = λ parts x. none-some x.end (sym ends ∙ x.ends) in
    cond_both (nat_lt (length input) head_limit) (Err CutShort) (Err HeadTooLarge) (λ at. IsAt input at read → MadeOf input at read) (λ _ is. (None, none, is)) (λ _ is. (None, none, is)) is
made input (Some n) read ends is =
    cond_both (nat_lt line_limit (line_feeds (take n input))) (Err HeadTooLarge) (Ok n) (λ at. IsAt input at read → MadeOf input at read) by_many
    (λ few is. with_parts (ltb-false line_limit (line_feeds (take n input)) few) is.0 is.1 is.2) is
  where
    with_parts : line_feeds (take n input) ≤ line_limit → (parts : Result Parts Refusal) → HasParts (take n input) parts
        → read ≡ and_then (with_body (drop n input)) parts → MadeOf input (Ok n) read
    with_parts lines (Ok parts) has is = (
      Some parts,
      record { end = n; ends = ends; few_lines = lines; head = has.0; reads = has.1; parts_are = has.2 },
      is,
    )
    with_parts lines (Err why) has is = (
      None,
      λ parts x. has.1 x.head (subst (λ k. ReadsRequest (take k input) x.head []) (same_end input x.end n x.ends ends) x.reads),
      is ∙ ap Err has.0,
    )

    by_many : nat_lt line_limit (line_feeds (take n input)) ≡ true → read ≡ Err HeadTooLarge → MadeOf input (Err HeadTooLarge) read
    by_many many is = (
      None,
      λ parts x. let few = subst (λ k. line_feeds (take k input) ≤ line_limit) (same_end input x.end n x.ends ends) x.few_lines in
          omega (arith, ltb-true line_limit (line_feeds (take n input)) many),
      is,
    )

-- ---- both ways

pub to_steps : (input : List ℕ) (read : Result Message Refusal) → IsMessage input read → IsMessageBySteps input read
to_steps input read is = subst (IsMessageBySteps input) (sym (is.2 ∙ message_is input is.0)) (is_message input is.0 is.1)

pub from_steps : (input : List ℕ) (read : Result Message Refusal) → IsMessageBySteps input read → IsMessage input read
from_steps input read is =
    let head = made input (head_end input) read refl is in
    (head.0, head.1, head.2 ∙ sym (message_is input head.0))

-- ---- an input that is refused for where its head ends

pub head_refused : (input : List ℕ) (why : Refusal) → head_at input ≡ Err why → IsMessage input (Err why)
head_refused input why e = from_steps input (Err why) (subst (λ at. IsAt input at (Err why)) (sym e) refl)
