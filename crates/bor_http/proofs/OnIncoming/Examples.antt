-- The definitions on worked inputs.
use Rattle.std.proofs.Common.{◌≡◌, ℕ, List, [], ◌∷◌, Some, None, Ok, Err, codes, refl}
use Rattle.httparse.specs.Grammar.{crlf, Field, RequestHead}
use Rattle.bor_http.specs.declared.incoming.fault.Refusal.TheVariants.{HeadTooLarge, CutShort, BadLength, BodyTooLarge}
use Rattle.bor_http.specs.Incoming.Counted.{after_fault, takes_nothing}
use Rattle.bor_http.specs.Incoming.Head.{head_len}
use Rattle.bor_http.specs.Incoming.Steps.{HasParts, body_len, length_of}
use Rattle.bor_http.proofs.OnIncoming.Steps.{head_within, head_at, with_body}
use Rattle.bor_http.specs.Incoming.Refusals.{message_read, IsMessage}
use Rattle.bor_http.specs.Incoming.Message.{Parts, FieldText, BeginsWith, only_value}
use Rattle.bor_http.proofs.OnIncoming.Written.{begins_with, head_fits, writer}

-- ---- where a head ends

-- after the first empty line, whatever follows
ends : head_len (codes "GET / HTTP/1.1\r\nHost: h\r\n\r\nbody\n\n") ≡ Some 27
unfolding head_len
ends = refl

-- a line feed alone ends a line too
line_feeds_alone : head_len (codes "GET / HTTP/1.1\n\r\nbody") ≡ Some 17
unfolding head_len
line_feeds_alone = refl

-- a carriage return alone ends none
without_end : head_len (codes "GET / HTTP/1.1\r\n\rHost") ≡ None
unfolding head_len
without_end = refl

cut_short : head_at (codes "GET / HTTP/1.1\r\n") ≡ Err CutShort
unfolding head_len
cut_short = refl

-- with a limit of four bytes: a head of as many, one that ends behind them, and too few bytes
within_limit : head_within 4 (codes "a\n\r\nbody") ≡ Ok 4
unfolding head_len
within_limit = refl

behind_limit : head_within 4 (codes "ab\n\r\n") ≡ Err HeadTooLarge
unfolding head_len
behind_limit = refl

before_limit : head_within 4 (codes "ab\n") ≡ Err CutShort
unfolding head_len
before_limit = refl

-- ---- a head, taken apart by the grammar of heads (RFC 9112)

abbrev literal : List ℕ
literal = codes "GET /filings HTTP/1.1\r\nHost:  localhost \r\n\r\n"

-- the field with the blanks around its value
abbrev host : Field
host = record { name = codes "Host"; raw = codes "  localhost "; end = crlf }

abbrev tree : RequestHead
tree = record { blank = []; method = codes "GET"; target = codes "/filings"; minor = 1; line_end = crlf; fields = host ∷ []; last = crlf }

-- the blanks around a value are no part of it
abbrev pub of_literal : Parts
of_literal = record { method = codes "GET"; target = codes "/filings"; fields = (codes "Host", codes "localhost") ∷ [] }

taken_apart : HasParts literal (Ok of_literal)
unfolding writer
taken_apart = (tree, (head_fits tree refl, refl), refl)

-- the input begins with it, whatever follows: it ends at the empty line, and has three lines of at most 66
pub begins : BeginsWith (codes "GET /filings HTTP/1.1\r\nHost:  localhost \r\n\r\nGET /") of_literal
unfolding writer
begins = begins_with (codes "GET /filings HTTP/1.1\r\nHost:  localhost \r\n\r\nGET /") of_literal tree refl refl refl refl refl

-- and it is a request
is_message : IsMessage (codes "GET /filings HTTP/1.1\r\nHost:  localhost \r\n\r\nGET /") (Ok (record { parts = of_literal; body = [] }))
unfolding head_len message_read
is_message = (Some of_literal, begins, refl)

-- ---- how long a body is

no_length : body_len ((codes "Host", codes "h") ∷ []) ≡ Ok 0
no_length = refl

some_length : body_len ((codes "content-LENGTH", codes "007") ∷ []) ≡ Ok 7
some_length = refl

no_digit : body_len ((codes "Content-Length", codes "7 ") ∷ []) ≡ Err BadLength
no_digit = refl

empty_length : body_len ((codes "Content-Length", []) ∷ []) ≡ Err BadLength
empty_length = refl

-- two of them are one too many, though they agree
two_lengths : body_len ((codes "Content-Length", codes "7") ∷ (codes "content-length", codes "7") ∷ []) ≡ Err BadLength
two_lengths = refl

-- how the body is sent is refused before how long it is
transfer : body_len ((codes "Content-Length", codes "9999999") ∷ (codes "Transfer-Encoding", codes "chunked") ∷ []) ≡ Err BadLength
transfer = refl

-- and a length is refused before it is known whether so much came
longest : length_of 10 (codes "10") ≡ Ok 10
longest = refl

too_long : length_of 10 (codes "0011") ≡ Err BodyTooLarge
too_long = refl

parts : List FieldText → Parts
parts fields = record { method = codes "PUT"; target = codes "/"; fields = fields }

-- the body is as long as its head says, and what follows is left
whole : with_body (codes "abcd") (parts ((codes "Content-Length", codes "3") ∷ [])) ≡ Ok (record { parts = parts ((codes "Content-Length", codes "3") ∷ []); body = codes "abc" })
unfolding parts
whole = refl

short : with_body (codes "ab") (parts ((codes "Content-Length", codes "3") ∷ [])) ≡ Err CutShort
unfolding parts
short = refl

-- ---- fields

one_value : only_value (codes "authorization") ((codes "Host", codes "h") ∷ (codes "Authorization", codes "Bearer x") ∷ []) ≡ Some (codes "Bearer x")
one_value = refl

two_values : only_value (codes "host") ((codes "Host", codes "h") ∷ (codes "HOST", codes "h") ∷ []) ≡ None
two_values = refl

-- ---- faults

wraps : after_fault 18446744073709551615 ≡ 0
wraps = refl

nothing_taken : takes_nothing {E = ℕ} (Ok 0) (codes "a") ≡ takes_nothing {E = ℕ} (Err 1) []
nothing_taken = refl
