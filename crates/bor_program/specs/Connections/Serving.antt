-- The keep that serving many clients at once leaves, and its status.
use Rattle.bor_register.specs.declared.fault.StoreFault.{StoreFault}
use Rattle.std.specs.Prelude.{◌≡◌, ◌+◌, ℕ, List, [], ◌∷◌, ◌++◌, length, map, count_by, Bool}
use Rattle.std.specs.Prelude.{true, false, ◌==◌, ◌||◌, ◌⊎◌, nat_lt, if◌then◌else◌, ⊤}
use Rattle.std.specs.List.{All, list_any}
use Rattle.std.specs.List.Sorted.{IsPermutation}
use Rattle.bor_records.specs.Promises.{Meaning, Promised}
use Rattle.bor_register.specs.Register.{Register}
use Rattle.bor_desk.specs.Operations.Legality.{IsLegal}
use Rattle.bor_wire.specs.Sent.{Sent, bytes_sent, status_sent}
use Rattle.bor_wire.specs.Sequences.{AreExchanged, Exchanged, IsRun, keep_left}
use Rattle.bor_wire.specs.Turns.{AnswersClean, IsTurn}
use Rattle.bor_program.specs.declared.log.Note.{Note}
use Rattle.bor_program.specs.Courses.{Course}
use Rattle.bor_program.specs.Logging.{IsNoteOf}
use Rattle.bor_program.specs.declared.connections.limits.Limits.{Limits}
use Rattle.bor_program.specs.Connections.Times.{IsPatient}
use Rattle.bor_program.specs.Connections.Watching.{Act, AreDone, IsExcused, OnWait, notes_in}

-- ---- answers

-- a request that was answered, and its reply
pub record GivenReply : Type 0 where
  pub request : List ℕ
  pub reply : Sent

abbrev pub given_reply : List ℕ → Sent → GivenReply
given_reply request reply = record { request = request; reply = reply }

-- an answer, and the keep that it left
pub record Answered (K : Type 0) : Type 0 where
  pub answer : GivenReply
  pub keep : K

-- the exchange that it was
abbrev pub exchange_of : {K : Type 0} → Answered K → Exchanged K
exchange_of a = record { input = a.answer.request; reply = a.answer.reply; keep = a.keep }

abbrev pub exchanges_of : {K : Type 0} → List (Answered K) → List (Exchanged K)
exchanges_of answered = map exchange_of answered

abbrev pub answers_in : {K : Type 0} → List (Answered K) → List GivenReply
answers_in answered = map (λ a. a.answer) answered

-- ---- notes

-- These notes are of requests that were answered from this keep on, in the same order, each of
-- another one. Some may have no note.
abbrev pub AreNotes : {K Left : Type 0} → Meaning K Register Left StoreFault → K
    → List (Answered K) → List Note → Type 0
AreNotes meaning keep [] notes = notes ≡ []
AreNotes meaning keep (a ∷ rest) notes =
    AreNotes meaning a.keep rest notes
    ⊎ ((note : Note) × (more : List Note) × (notes ≡ note ∷ more)
    × IsNoteOf (Promised meaning keep a.keep) a.answer.request a.answer.reply note
    × AreNotes meaning a.keep rest more)

-- ---- how connections ended

-- how a connection ended
pub data Ended : Type 0 where
  -- its client could not be let in, or the server ended before it came
  Absent : Ended
  -- its client was given up before its request was answered; these bytes had come
  Unanswered : (request : List ℕ) → Ended
  -- so many bytes of the reply to its request were handed to its client
  Told : (answer : GivenReply) → (sent : ℕ) → Ended

-- a connection failed: its client has no whole reply, or the one that says that the store failed
abbrev pub has_failed : Ended → Bool
has_failed Absent = true
has_failed (Unanswered request) = true
has_failed (Told answer sent) =
    status_sent answer.reply == 503 || nat_lt sent (length (bytes_sent answer.reply))

-- on so many of these no client came
abbrev pub is_absent : Ended → Bool
is_absent Absent = true
is_absent (Unanswered request) = false
is_absent (Told answer sent) = false

abbrev pub absent_in : List Ended → ℕ
absent_in ended = count_by is_absent ended

-- the status of a server: 3 where a connection failed, else 0
abbrev pub status_of_server : List Ended → ℕ
status_of_server ended = if list_any has_failed ended then 3 else 0

-- the answer on it
abbrev pub told_on : Ended → List GivenReply
told_on Absent = []
told_on (Unanswered request) = []
told_on (Told answer sent) = answer ∷ []

abbrev pub told_in : List Ended → List GivenReply
told_in [] = []
told_in (e ∷ rest) = told_on e ++ told_in rest

-- ---- the server

-- How far a server has come: of so many connections so many are pending, on so many no client came;
-- its status; and its notes of what was answered.
pub record Tally : Type 0 where
  pub connections : ℕ
  pub pending : ℕ
  pub absent : ℕ
  pub status : ℕ
  pub notes : List Note

-- Of so many connections some have ended, and some are pending, on which these answers are still
-- being sent. The requests were answered one after the other, each from the keep that the one
-- before it left. A request has another status than 503 only where the keep after it is clean, if
-- its store has returned what was written by then, and bytes that spell no request have their
-- refusal, or 503. Each answer is sent on one connection, and on no
-- other. On so many no client came. `Is` holds of how each connection ended.
pub record IsServing {K Left : Type 0} (meaning : Meaning K Register Left StoreFault)
    (Is : Ended → Type 0) (old new : K) (telling : List GivenReply) (tally : Tally) : Type 0 where
  pub answered : List (Answered K)
  pub ended : List Ended
  pub count : length ended + tally.pending ≡ tally.connections
  pub each : AreExchanged meaning old (exchanges_of answered)
  pub turns : All IsTurn (exchanges_of answered)
  pub answer_clean : All (AnswersClean meaning) (exchanges_of answered)
  pub left : keep_left old (exchanges_of answered) ≡ new
  pub told_once : IsPermutation (answers_in answered) (telling ++ told_in ended)
  pub ended_so : All Is ended
  pub missing : absent_in ended ≡ tally.absent
  pub status : tally.status ≡ status_of_server ended
  pub noted : AreNotes meaning old answered tally.notes

-- So many connections were served and have ended, with this status. What was answered on them, one
-- request after the other, is a run from a legal register: the bytes of each request and of its
-- reply are known.
pub record IsServedAs {K Left : Type 0} (meaning : Meaning K Register Left StoreFault)
    (Is : Ended → Type 0) (old new : K) (connections told : ℕ) : Type 0 where
  pub absent : ℕ
  pub notes : List Note
  pub served : IsServing meaning Is old new [] (record {
    connections = connections;
    pending = 0;
    absent = absent;
    status = told;
    notes = notes;
  })
  pub run : Promised meaning old new
      (λ r. IsLegal r → IsRun (meaning.shows new) r (exchanges_of served.answered))

-- connections were served so, whatever the bytes of their streams
abbrev pub IsServed : {K Left : Type 0} → Meaning K Register Left StoreFault → K → K → ℕ → ℕ
    → Type 0
IsServed meaning old new connections told =
    IsServedAs meaning (λ e. ⊤) old new connections told

-- The same, of what the server asked of its watch: no client came only where one could not be let
-- in, or where the server may end; and the notes of what was answered, and no others, were given to
-- it, each once and in their order. No wait that has an end is longer than the limits.
pub record IsServedOver {K W Left : Type 0} (meaning : Meaning K Register Left StoreFault)
    (Is : Ended → Type 0) (calls : Course W Act) (limits : Limits) (old new : K)
    (connections told : ℕ) : Type 0 where
  pub served : IsServedAs meaning Is old new connections told
  pub acts : List Act
  pub done : AreDone calls.does calls.begun acts calls.ended
  pub excused : IsExcused acts served.absent
  pub noted : notes_in acts ≡ served.notes
  pub patient : All (OnWait (IsPatient limits)) acts
