-- The effects of one input, and what an exchange over a reader and a writer tells.
use Rattle.std.specs.Prelude.{◌≡◌, ◌≤◌, ℕ, List, [], ◌∷◌, take, Option, Some, None, Ok, Err}
use Rattle.std.specs.Prelude.{IfSome, true, ⊤}
use Rattle.std.specs.Io.KnownBytes.{Appends}
use Rattle.bor_register.specs.Register.{Register, caller_of}
use Rattle.bor_desk.specs.Operations.Legality.{IsLegal}
use Rattle.bor_desk.specs.declared.reply.DeskReply.{DeskReply}
use Rattle.bor_desk.specs.Laws.{is_long}
use Rattle.bor_desk.specs.Outcomes.{IsTold, agent_of}
use Rattle.bor_desk.specs.Runs.{Asked, exchange}
use Rattle.bor_http.specs.Incoming.Counted.{after_fault}
use Rattle.bor_http.specs.declared.incoming.fault.Refusal.{Refusal}
use Rattle.bor_wire.specs.Spelling.Spell.{Spelled, Spells}
use Rattle.bor_wire.specs.Rendering.Replies.{Said, refused, answered, status_of, bytes_of}
use Rattle.bor_wire.specs.declared.outcome.Outcome.{Outcome}
use Rattle.bor_wire.specs.declared.outcome.Outcome.TheVariants.{Replied, ReadFailed, WriteFailed}
use Rattle.bor_wire.specs.declared.response.Response.{Response}
use Rattle.bor_wire.specs.Inputs.{IsSaid, after}
use Rattle.bor_wire.specs.Reports.{IsExact}
use Rattle.bor_wire.specs.Histories.{IsAlone}
use Rattle.bor_wire.specs.Sent.{Sent, Full, Unavailable, bytes_sent, status_sent}

-- ---- the reply that goes out; for clauses of private functions alone

-- the status and the bytes are those of what is said to the input, and the register after it is
-- shown
abbrev pub IsSent : (Register → Type 0) → Register → Spelled → ℕ → List ℕ → Type 0
IsSent shown r spelled status bytes =
    (said : Said) × IsSaid r spelled said × (bytes ≡ bytes_of said) × (status ≡ status_of said)
    × shown (after r spelled)

-- the reply that goes out for an input that spells this, or nothing changed
abbrev pub GoesOut : Sent → (Register → Type 0) → Register → Spelled → Type 0
GoesOut (Full status bytes) shown r spelled = IsSent shown r spelled status bytes
GoesOut Unavailable shown r spelled = shown r

-- a whole reply is the refusal
abbrev pub IsRefusal : Sent → Refusal → Type 0
IsRefusal (Full status bytes) why =
    (status ≡ status_of (refused why)) × (bytes ≡ bytes_of (refused why))
IsRefusal Unavailable why = ⊤

-- the desk's reply, where there is one, has the answer
abbrev pub TellsAnswer : Option DeskReply → Register → Asked → Type 0
TellsAnswer reply r asked = IfSome reply (λ told. IsTold (exchange r asked).answer told)

-- the register after what the desk did; where it has no reply, nothing changed
abbrev pub left_by_desk : Option DeskReply → Register → Asked → Register
left_by_desk (Some reply) r asked = (exchange r asked).register
left_by_desk None r asked = r

-- the reply that goes out has the status and the bytes of the desk's reply; nothing may go out of
-- one that only has what was read
abbrev pub IsRendered : Sent → DeskReply → Type 0
IsRendered (Full status bytes) reply =
    (status ≡ status_of (answered reply)) × (bytes ≡ bytes_of (answered reply))
IsRendered Unavailable reply = is_long reply ≡ true

-- where there is no whole reply, or one with a status of 400 or more, P holds
abbrev pub IfRefusing : Sent → Type 0 → Type 0
IfRefusing (Full status bytes) P = 400 ≤ status → P
IfRefusing Unavailable P = P

-- ---- one input

-- The input was replied to with this status, in these bytes.
pub record IsReplied (shown : Register → Type 0) (r : Register) (input : List ℕ) (status : ℕ)
    (bytes : List ℕ) : Type 0 where
  -- it spells this
  pub spelled : Spelled
  pub spells : Spells input spelled
  -- this is said to it, with this status and in these bytes
  pub said : Said
  pub tells : IsSaid r spelled said
  pub status_is : status ≡ status_of said
  pub bytes_are : bytes ≡ bytes_of said
  -- the register after it is shown
  pub left : shown (after r spelled)
  -- a report on chains with status 200 names exactly the persons joined to the entity
  pub exact : IsExact r spelled said
  -- from a legal register each agent receives what it would receive alone
  pub alone : IsLegal r → (name : List ℕ) → IsAlone name r (spelled ∷ []) (bytes ∷ [])

-- The effects of an input that had this reply, from the register r: `shown` says of a register that
-- it is shown after it. With status 503 nothing changed.
abbrev pub IsExchanged : (Register → Type 0) → Register → List ℕ → Sent → Type 0
IsExchanged shown r input (Full status bytes) = IsReplied shown r input status bytes
IsExchanged shown r input Unavailable = shown r

-- ---- where a request is answered

-- P, where a request is spelled
abbrev pub IfAsked : Spelled → Type 0 → Type 0
IfAsked (Ok asked) P = P
IfAsked (Err why) P = Unit {0}

-- ---- the state that a stop leaves

-- the state that is left shows the register after the input
abbrev pub ShowsAfter : {W : Type 0} → (W → Register → Type 0) → List ℕ → Register → W → Type 0
ShowsAfter left_shows input r left =
    (spelled : Spelled) × Spells input spelled × left_shows left (after r spelled)

-- ---- whom it is for

-- the agent that has the token which is spelled; none where the registrar or nobody has it, and
-- where no request is spelled
abbrev pub agent_spelled : Register → Spelled → Option (List ℕ)
agent_spelled r (Ok asked) = agent_of (caller_of asked.token r)
agent_spelled r (Err why) = None

-- beside a whole reply the agent that asks is named, if one does; with 503 none has to be
abbrev pub IsFor : Sent → Option (List ℕ) → Option (List ℕ) → Type 0
IsFor (Full status bytes) named asks = named ≡ asks
IsFor Unavailable named asks = IfSome named (λ name. asks ≡ Some name)

-- The response to an input names the agent that has the token which the input spells, and none
-- where there is no such agent, or no request; with 503 it may name none.
abbrev pub NamesWhoAsks : Register → List ℕ → Response → Type 0
NamesWhoAsks r input response =
    (spelled : Spelled) → Spells input spelled
    → IsFor response.reply response.agent (agent_spelled r spelled)

-- the desk's reply, where there is one, is for the agent that asks; without one, no other agent is
-- named (for clauses of private functions alone)
abbrev pub IsToldFor : Option DeskReply → Option (List ℕ) → Option (List ℕ) → Type 0
IsToldFor (Some reply) named asks = named ≡ asks
IsToldFor None named asks = IfSome named (λ name. asks ≡ Some name)

-- ---- a reader and a writer

-- the faults that the reader and the writer counted are those that the outcome says
abbrev pub read_faults : Outcome → ℕ → ℕ
read_faults ReadFailed n = after_fault n
read_faults outcome n = n

abbrev pub write_faults : Outcome → ℕ → ℕ
write_faults (WriteFailed status) n = after_fault n
write_faults outcome n = n

-- a reader's fault is counted where there is no reply (for clauses of private functions alone)
abbrev pub faults_unread : Option Sent → ℕ → ℕ
faults_unread None n = after_fault n
faults_unread (Some reply) n = n

-- this reply was written, or a front of it where the writer failed
abbrev pub IsWritten : Outcome → Sent → Option (List ℕ) → Option (List ℕ) → Type 0
IsWritten (Replied status) reply old new =
    (status ≡ status_sent reply) × Appends old new (bytes_sent reply)
IsWritten ReadFailed reply old new = ⊥
IsWritten (WriteFailed status) reply old new =
    (status ≡ status_sent reply) × ((n : ℕ) × Appends old new (take n (bytes_sent reply)))
