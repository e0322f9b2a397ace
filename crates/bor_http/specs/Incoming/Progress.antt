-- How much of a request has come.
use Rattle.std.specs.Prelude.{◌≡◌, ◌≢◌, ◌≤◌, ◌<◌, ℕ, List, ◌++◌, length, take, nat_lt, None, Ok}
use Rattle.std.specs.Prelude.{Err, Result, slice_range, if◌then◌else◌, ⊤}
use Rattle.bor_http.specs.declared.incoming.fault.Refusal.{Refusal}
use Rattle.bor_http.specs.declared.incoming.fault.Refusal.TheVariants.{CutShort}
use Rattle.bor_http.specs.declared.incoming.message.MessageHead.{MessageHead}
use Rattle.bor_http.specs.declared.incoming.progress.Progress.{Progress}
use Rattle.bor_http.specs.declared.incoming.progress.Progress.TheVariants.{Searched, Refused}
use Rattle.bor_http.specs.declared.incoming.progress.Progress.TheVariants.{Headed}
use Rattle.bor_http.specs.Incoming.Head.{head_len, head_limit}
use Rattle.bor_http.specs.Incoming.Message.{Message, request_limit}
use Rattle.bor_http.specs.Incoming.Refusals.{IsMessage}
use Rattle.bor_http.specs.Incoming.Steps.{AreWithin, parts_at}

-- The bytes are one request, or are refused for what has come: nothing is missing of them.
abbrev pub IsWhole : List ℕ → Type 0
IsWhole bytes = ¬ (IsMessage bytes (Err CutShort))

-- the message of an input, as a head's spans and lengths say it: its parts, and the bytes behind it
abbrev pub message_by : MessageHead → List ℕ → Message
message_by head input = record {
  parts =
      parts_at (take head.len input) head.spans.method head.spans.target
      head.spans.fields.items;
  body = slice_range input head.len head.needed;
}

-- the input is read so: it is cut short, or is that message
abbrev pub begun_by : MessageHead → List ℕ → Result Message Refusal
begun_by head input =
    if nat_lt (length input) head.needed then Err CutShort else Ok (message_by head input)

-- The bytes begin so that this head's spans and lengths say what the request is, whatever follows.
pub record IsHeadOf (bytes : List ℕ) (head : MessageHead) : Type 0 where
  pub within : AreWithin (take head.len bytes) head.spans.method head.spans.target
      head.spans.fields.items
  pub ends : head.len ≤ length bytes
  pub behind : head.len ≤ head.needed
  pub fits : head.needed ≤ request_limit
  pub says : (more : List ℕ) → IsMessage (bytes ++ more) (begun_by head (bytes ++ more))

-- So much is known of the bytes: no head ends within the first n of them, fewer than a head may
-- have; or they are refused so, not as cut short, or begin with this head, whatever follows.
abbrev pub IsProgress : List ℕ → Progress → Type 0
IsProgress bytes (Searched n) =
    (n ≤ length bytes) × (n < head_limit) × (head_len (take n bytes) ≡ None)
IsProgress bytes (Refused why) =
    (why ≢ CutShort) × ((more : List ℕ) → IsMessage (bytes ++ more) (Err why))
IsProgress bytes (Headed head) = IsHeadOf bytes head

-- where a head is still looked for, all of so many bytes were searched
abbrev pub HasSearched : ℕ → Progress → Type 0
HasSearched count (Searched n) = n ≡ count
HasSearched count (Refused why) = ⊤
HasSearched count (Headed head) = ⊤

-- so many bytes may be read before more is known: those of the largest head; none more of what is
-- refused; those of the request
abbrev pub needs : Progress → ℕ
needs (Searched n) = head_limit
needs (Refused why) = 0
needs (Headed head) = head.needed
