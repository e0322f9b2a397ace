-- How the bytes of a client's stream follow from the answers on it, where its bytes are known.
use Rattle.std.specs.Prelude.{◌≡◌, ◌≤◌, ◌<◌, ◌⊎◌, ◌+◌, ◌++◌, ℕ, List, length, take, Option, ⊤}
use Rattle.std.specs.Io.KnownBytes.{Appends, Consumes, IsAtEnd}
use Rattle.std.specs.declared.io.ErrorKind.{ErrorKind}
use Rattle.std.specs.declared.io.ErrorKind.TheVariants.{Interrupted, WouldBlock}
use Rattle.bor_http.specs.declared.incoming.progress.Progress.{Progress}
use Rattle.bor_http.specs.Incoming.Message.{request_limit}
use Rattle.bor_http.specs.Incoming.Progress.{IsProgress, IsWhole, needs}
use Rattle.bor_program.specs.Connections.Limits.{rest_limit}
use Rattle.bor_wire.specs.Sent.{bytes_sent, status_sent}
use Rattle.bor_program.specs.Connections.Serving.{GivenReply, Ended, Absent, Unanswered, Told}

-- What is known of streams: the bytes that may still be read of one, and those that were written to
-- it.
pub record Wire (S : Type 0) : Type 1 where
  pub remaining : S → Option (List ℕ)
  pub contents : S → Option (List ℕ)

abbrev pub wire_of : {S : Type 0} → (remaining contents : S → Option (List ℕ)) → Wire S
wire_of remaining contents = record { remaining = remaining; contents = contents }

-- these bytes were read from the stream, since it came
abbrev pub Came : {S : Type 0} → (S → Option (List ℕ)) → S → List ℕ → Type 0
Came {S} remaining stream bytes = (came : S) × Consumes (remaining came) (remaining stream) bytes

-- None of these bytes was forgotten: whatever state of the stream they were read from, the later
-- ones were read from it too.
abbrev pub KeepsAll : {S : Type 0} → (S → Option (List ℕ)) → (old : S) → (bytes : List ℕ)
    → (new : S) → (later : List ℕ) → Type 0
KeepsAll {S} remaining old bytes new later =
    (came : S) → Consumes (remaining came) (remaining old) bytes
    → Consumes (remaining came) (remaining new) later

-- The facts that are known of a client whose request is read: where its bytes come from, how far
-- they are known, and that they are no whole request yet, and no more than a head and a body may
-- have.
pub record IsReading {S : Type 0} (remaining : S → Option (List ℕ)) (stream : S) (received : List ℕ)
    (progress : Progress) : Type 0 where
  pub came : Came remaining stream received
  pub known : IsProgress received progress
  pub missing : length received < needs progress
  pub partial : IsWhole received → ⊥
  pub fits : length received ≤ request_limit

-- One read of a request took n bytes of the stream, at most as many as there was room for, and put
-- them behind those that had come; none only at the end.
pub record Received (known left : Option (List ℕ)) (old new : List ℕ) (room n : ℕ) : Type 0 where
  pub bytes : List ℕ
  pub consumed : Consumes known left bytes
  pub appended : new ≡ old ++ bytes
  pub count : length bytes ≡ n
  pub within : n ≤ room
  pub ended : n ≡ 0 → IsAtEnd left

-- the request is whole, or its client has ended it, or there was no memory for it
abbrev pub IsReady : {S : Type 0} → (S → Option (List ℕ)) → S → GivenReply → Type 0
IsReady remaining stream answer =
    IsWhole answer.request ⊎ (IsAtEnd (remaining stream) ⊎ (status_sent answer.reply ≡ 503))

-- The request was read from this very stream, is no longer than a request may be, and was ready
-- when it was answered; and so many bytes of the reply to it, and nothing else, were written to the
-- same stream since then.
pub record IsWriting {S : Type 0} (wire : Wire S) (stream : S) (answer : GivenReply)
    (sent : ℕ) : Type 0 where
  pub read : S
  pub came : Came wire.remaining read answer.request
  pub fits : length answer.request ≤ request_limit
  pub ready : IsReady wire.remaining read answer
  pub within : sent ≤ length (bytes_sent answer.reply)
  pub written : Appends (wire.contents read) (wire.contents stream)
      (take sent (bytes_sent answer.reply))

-- of as many bytes as may still be read, those that were read are left out
abbrev pub Drops : Option (List ℕ) → Option (List ℕ) → ℕ → ℕ → Type 0
Drops known left before after =
    (bytes : List ℕ) × Consumes known left bytes × (length bytes + after ≡ before)

-- The whole reply was written to this very stream; and what was read of it since then, and dropped,
-- and what may still be read, are together as much as is read behind a reply.
pub record IsDraining {S : Type 0} (wire : Wire S) (stream : S) (answer : GivenReply)
    (left : ℕ) : Type 0 where
  pub written : S
  pub told : IsWriting wire written answer (length (bytes_sent answer.reply))
  pub dropped : Drops (wire.remaining written) (wire.remaining stream) rest_limit left

-- So many bytes of the reply were written to the stream that its request was read from, and since
-- then no more was read of it than is read behind a reply, until it was let go.
pub record IsReplySent {S : Type 0} (wire : Wire S) (answer : GivenReply) (sent : ℕ) : Type 0 where
  pub written : S
  pub told : IsWriting wire written answer sent
  pub let_go : S
  pub dropped : List ℕ
  pub behind : Consumes (wire.remaining written) (wire.remaining let_go) dropped
  pub bound : length dropped ≤ rest_limit

-- These bytes were read of the stream of a client that is given up: they are no whole request, for
-- one that is whole is answered.
pub record IsUnanswered {S : Type 0} (remaining : S → Option (List ℕ))
    (request : List ℕ) : Type 0 where
  pub stream : S
  pub came : Came remaining stream request
  pub partial : IsWhole request → ⊥
  pub fits : length request ≤ request_limit

-- a connection ended so, on a stream of these
abbrev pub EndedOn : {S : Type 0} → Wire S → Ended → Type 0
EndedOn wire Absent = ⊤
EndedOn wire (Unanswered request) = IsUnanswered wire.remaining request
EndedOn wire (Told answer sent) = IsReplySent wire answer sent

-- nothing can be read or written at the moment, and nothing failed
abbrev pub IsBlocked : ErrorKind → Type 0
IsBlocked kind = (kind ≡ WouldBlock) ⊎ (kind ≡ Interrupted)

-- a reply with this status may be written before its request is read to its end: to a head that is
-- none or too large, to a body that is too large, and where memory was wanting for them
abbrev pub MayBeUnread : ℕ → Type 0
MayBeUnread status = (status ≡ 400) ⊎ ((status ≡ 413) ⊎ ((status ≡ 431) ⊎ (status ≡ 503)))
