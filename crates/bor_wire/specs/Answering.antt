-- One input, answered from a keep.
use Rattle.bor_register.specs.declared.fault.StoreFault.{StoreFault}
use Rattle.std.specs.Prelude.{◌≡◌, ◌≤◌, ℕ, List, Option, Some, None, IfSome, Result, Ok, Err}
use Rattle.std.specs.Io.KnownBytes.{Keeps}
use Rattle.bor_records.specs.Promises.{Leaves, Meaning, Promised}
use Rattle.bor_register.specs.Register.{Register, IsOrdered}
use Rattle.bor_desk.specs.Runs.{Asked}
use Rattle.bor_http.specs.declared.incoming.fault.Refusal.{Refusal}
use Rattle.bor_http.specs.declared.incoming.fault.WireFault.{WireFault}
use Rattle.bor_http.specs.declared.incoming.fault.WireFault.TheVariants.{Memory, Read, Refused}
use Rattle.bor_wire.specs.declared.spelling.asking.Asking.{Asking}
use Rattle.bor_wire.specs.Spelling.Spell.{Spelled, Spells, asked_view}
use Rattle.bor_wire.specs.declared.outcome.Outcome.{Outcome}
use Rattle.bor_wire.specs.declared.outcome.Outcome.TheVariants.{Replied, ReadFailed, WriteFailed}
use Rattle.bor_wire.specs.Inputs.{after}
use Rattle.bor_wire.specs.Sent.{Sent, IfFull, TellsStatus, Unavailable, status_sent}
use Rattle.bor_wire.specs.Exchanges.{GoesOut, IfAsked, IfRefusing, IsExchanged, IsFor, IsRefusal}
use Rattle.bor_wire.specs.Exchanges.{IsWritten, ShowsAfter, agent_spelled}

-- This reply to an input led from the old keep to the new one.
pub record Responds {K W : Type 0} (meaning : Meaning K Register W StoreFault) (old new : K)
    (input : List ℕ) (reply : Sent) : Type 0 where
  -- a stop leaves what one before might have left, or the register after the input
  pub leaves : Leaves meaning old new (ShowsAfter meaning.left_shows input)
  -- which reply it is, and which register is left
  pub exchanged : Promised meaning old new (λ r. IsOrdered r.members
      → IsExchanged (meaning.shows new) r input reply)
  -- with a status of 400 or more, 503 too, nothing changed
  pub refused_kept : Promised meaning old new (λ r. 400 ≤ status_sent reply → meaning.shows new r)
  -- a request has another status than 503 only where the keep ends clean, if its store has returned
  -- what was written
  pub up : (asked : Asked) → Spells input (Ok asked)
      → IfFull reply (meaning.is_sound new → meaning.is_clean new)
  -- an input that spells a refusal is answered by it, where the status isn't 503
  pub refused : (why : Refusal) → Spells input (Err why) → IsRefusal reply why
  -- with another status than 503 the input spells something
  pub spells : IfFull reply ((spelled : Spelled) × Spells input spelled)
  -- the bytes begin with the status, and with 503 they are `UNAVAILABLE`
  pub told : TellsStatus reply

-- An input, all the bytes that the reader had, where they are known, was answered so, and the reply
-- was written, or a front of it where the writer failed.
pub record IsAnsweredOver {K W : Type 0} (meaning : Meaning K Register W StoreFault) (old new : K)
    (outcome : Outcome) (known held holds : Option (List ℕ)) : Type 0 where
  pub input : List ℕ
  pub reply : Sent
  pub all : IfSome known (λ bytes. input ≡ bytes)
  pub responds : Responds meaning old new input reply
  pub written : IsWritten outcome reply held holds

-- One exchange, which ended so, led from the old keep to the new one. Its reader had the bytes
-- `known`, and its writer held those of `held` before it and those of `holds` after it. Where the
-- bytes of a reader or a writer aren't known, nothing is said of them. Where the reader failed,
-- nothing changed and nothing was written.
abbrev pub AnswersOne : {K W : Type 0} → Meaning K Register W StoreFault → K → K → Outcome
    → (known held holds : Option (List ℕ)) → Type 0
AnswersOne meaning old new (Replied status) known held holds =
    IsAnsweredOver meaning old new (Replied status) known held holds
AnswersOne meaning old new ReadFailed known held holds = (new ≡ old) × Keeps held holds
AnswersOne meaning old new (WriteFailed status) known held holds =
    IsAnsweredOver meaning old new (WriteFailed status) known held holds

-- ---- what was spelled, without the input

-- The same of what goes out for an input that spells this, beside which this agent is named.
pub record GoesOutFor {K W : Type 0} (meaning : Meaning K Register W StoreFault) (old new : K)
    (named : Option (List ℕ)) (out : Sent) (spelled : Spelled) : Type 0 where
  pub leaves : Leaves meaning old new (λ r left. meaning.left_shows left (after r spelled))
  pub reply : Promised meaning old new (λ r. IsOrdered r.members
      → GoesOut out (meaning.shows new) r spelled)
  pub kept : Promised meaning old new (λ r. IfRefusing out (meaning.shows new r))
  pub up : IfAsked spelled (IfFull out (meaning.is_sound new → meaning.is_clean new))
  pub agent : Promised meaning old new (λ r. IsFor out named (agent_spelled r spelled))
  pub refused : (why : Refusal) → spelled ≡ Err why → IsRefusal out why
  pub status : TellsStatus out

-- What goes out for what was found in an input: for a request or a refusal as above; where there is
-- neither, 503, and the keep was asked nothing.
abbrev pub GoesOutAs : {K W : Type 0} → Meaning K Register W StoreFault → K → K
    → Option (List ℕ) → Sent → Result Asking WireFault → Type 0
GoesOutAs meaning old new named out (Ok asking) =
    GoesOutFor meaning old new named out (Ok (asked_view asking))
GoesOutAs meaning old new named out (Err (Refused why)) =
    GoesOutFor meaning old new named out (Err why)
GoesOutAs meaning old new named out (Err Read) =
    (new ≡ old) × (named ≡ None) × (out ≡ Unavailable)
GoesOutAs meaning old new named out (Err Memory) =
    (new ≡ old) × (named ≡ None) × (out ≡ Unavailable)

-- ---- for clauses of private functions alone

-- an input, all that the reader had, where that is known, was answered so; or the keep was asked
-- nothing
abbrev pub RespondsIfRead : {K W : Type 0} → Meaning K Register W StoreFault → K → K
    → Option (List ℕ) → Option Sent → Type 0
RespondsIfRead meaning old new known (Some reply) =
    (input : List ℕ) × IfSome known (λ bytes. input ≡ bytes) × Responds meaning old new input reply
RespondsIfRead meaning old new known None = new ≡ old
