-- When the time of a client is up, by a clock that is read once a turn, before the clients are
-- served.
use Rattle.std.specs.Prelude.{◌≡◌, ◌≢◌, ◌≤◌, ◌<◌, ◌+◌, ◌-◌, ◌⊎◌, ◌==◌, ℕ, Option, Some, None}
use Rattle.std.specs.Prelude.{if◌then◌else◌, IfSome, length, true, unwrap_or, ⊤}
use Rattle.std.specs.Duration.{as_nanos, max_nanos}
use Rattle.std.specs.declared.time.Duration.{Duration}
use Rattle.bor_program.specs.declared.connections.limits.Limits.{Limits}
use Rattle.bor_program.specs.declared.connections.phase.Phase.{Phase}
use Rattle.bor_program.specs.declared.connections.phase.Phase.TheVariants as phase
use Rattle.bor_program.specs.declared.connections.taking.Taking.{Taking}
use Rattle.bor_program.specs.declared.connections.timing.Timing.{Timing}
use Rattle.bor_wire.specs.Sent.{bytes_sent}
use Rattle.bor_program.specs.declared.connections.phase.Pace.TheVariants as pace
use Rattle.bor_program.specs.declared.connections.phase.Step.{Step}
use Rattle.bor_program.specs.declared.connections.phase.Step.TheVariants as step
use Rattle.bor_program.specs.Connections.Limits.{IsBelowFloor, rest_limit}

-- ---- how a reply is taken

-- the clock is read for the first time since the reply was made, and so many bytes have been taken
-- before
abbrev pub begun : ℕ → Duration → Taking
begun sent now = record { since = now; taken = sent; idle_since = now }

-- the clock is read again: where more was taken since it was last read, nothing has been taken
-- since now alone
abbrev pub taking_after : Option Taking → ℕ → Duration → Taking
taking_after None sent now = begun sent now
taking_after (Some before) sent now =
    if sent == before.taken then before
    else record { since = before.since; taken = sent; idle_since = now }

-- a client that has taken so many bytes now takes its reply too slowly: nothing for so long, or in
-- all less than the floor
abbrev pub IsSlow : Limits → Taking → ℕ → Duration → Type 0
IsSlow limits taking sent now =
    ((sent ≡ taking.taken) × (as_nanos limits.reply ≤ as_nanos now - as_nanos taking.idle_since))
    ⊎ IsBelowFloor limits.floor (as_nanos limits.reply) sent (as_nanos now - as_nanos taking.since)

-- ---- how much time a client has

-- a client that comes now: no time of a phase has begun, and it is looked at at once
abbrev pub fresh : Duration → Timing
fresh now = record { since = None; idle_since = now; is_ready = true }

-- this is known of how a client takes its reply: nothing until that is made, and no more once it is
-- taken
abbrev pub IsTaking : {S : Type 0} → Option Taking → Phase S → Type 0
IsTaking taking (phase.Reading reading) = taking ≡ None
IsTaking taking (phase.Writing writing) = writing.taking ≡ taking
IsTaking taking (phase.Draining draining) = ⊤

-- and this once the clock is read, which begins the time of a reply that was made before
abbrev pub taking_once_read : {S : Type 0} → Phase S → Duration → Option Taking
taking_once_read (phase.Reading reading) now = None
taking_once_read (phase.Writing writing) now = Some (taking_after writing.taking writing.sent now)
taking_once_read (phase.Draining draining) now = None

-- so much of a limit is left, where its time began then, or begins now
abbrev pub left_of : Duration → Option Duration → Duration → ℕ
left_of limit since now = as_nanos limit - (as_nanos now - as_nanos (unwrap_or since now))

-- so much time has passed since then, or since now, where nothing began before
abbrev pub IsPast : Duration → Option Duration → Duration → Type 0
IsPast limit since now = as_nanos limit ≤ as_nanos now - as_nanos (unwrap_or since now)

-- A reply may be waited for so long from now on, where nothing more of it is taken: behind that its
-- client is too slow at each time that there can be, and before that at none.
pub record IsSlowBehind (limits : Limits) (taking : Taking) (now left : Duration) : Type 0 where
  pub within : as_nanos left ≤ as_nanos limits.reply
  pub behind : as_nanos taking.since ≤ as_nanos now → as_nanos taking.idle_since ≤ as_nanos now
      → (later : Duration) → as_nanos now + as_nanos left < as_nanos later
      → as_nanos later ≤ max_nanos → IsSlow limits taking taking.taken later
  pub before : (later : Duration) → as_nanos now ≤ as_nanos later
      → as_nanos later < as_nanos now + as_nanos left
      → IsSlow limits taking taking.taken later → ⊥

-- and not at all, where the clock was not read since bytes were taken
abbrev pub IsReplyLeft : Limits → Option Taking → ℕ → Duration → Duration → Type 0
IsReplyLeft limits None sent now left = as_nanos left ≡ 0
IsReplyLeft limits (Some taking) sent now left =
    (sent ≡ taking.taken → IsSlowBehind limits taking now left)
    × (sent ≢ taking.taken → as_nanos left ≡ 0)

-- a client in this phase may be waited for so long
abbrev pub IsTimeLeft : {S : Type 0} → Limits → Option Duration → Phase S → Duration → Duration
    → Type 0
IsTimeLeft limits since (phase.Reading reading) now left =
    as_nanos left ≡ left_of limits.request since now
IsTimeLeft limits since (phase.Writing writing) now left =
    IsReplyLeft limits writing.taking writing.sent now left
IsTimeLeft limits since (phase.Draining draining) now left =
    as_nanos left ≡ left_of limits.rest since now

-- a wait is no longer than the limits, where it has an end
abbrev pub IsPatient : Limits → Option Duration → Type 0
IsPatient limits wait =
    IfSome wait (λ time. (as_nanos time ≤ as_nanos limits.request)
    ⊎ ((as_nanos time ≤ as_nanos limits.reply) ⊎ (as_nanos time ≤ as_nanos limits.rest)))

-- the time of a client in this phase is up
abbrev pub IsTimeUp : {S : Type 0} → Limits → Timing → Phase S → Duration → Type 0
IsTimeUp limits timing (phase.Reading reading) now = IsPast limits.request timing.since now
IsTimeUp limits timing (phase.Writing writing) now =
    IsSlow limits (unwrap_or writing.taking (begun writing.sent now)) writing.sent now
IsTimeUp limits timing (phase.Draining draining) now = IsPast limits.rest timing.since now

-- the time of a client in this phase is up, as the clock is read now, and began then
abbrev pub IsOverdue : {S : Type 0} → Limits → Option Duration → Phase S → Duration → Type 0
IsOverdue limits since (phase.Reading reading) now = IsPast limits.request since now
IsOverdue limits since (phase.Writing writing) now =
    IsSlow limits (taking_after writing.taking writing.sent now) writing.sent now
IsOverdue limits since (phase.Draining draining) now = IsPast limits.rest since now

-- ---- since when it is idle

-- so many bytes were read of a client or written to it, and one more for each phase that began
abbrev pub moves_of : {S : Type 0} → Phase S → ℕ
moves_of (phase.Reading reading) = length reading.received.items
moves_of (phase.Writing writing) = length writing.request.value.items + 1 + writing.sent
moves_of (phase.Draining draining) =
    length draining.request.value.items + length (bytes_sent draining.reply) + 2
    + (rest_limit - draining.left)

-- a step moves something, unless nothing can be read or written
abbrev pub IsPaced : {S : Type 0} → Phase S → Step S → Type 0
IsPaced old (step.Goes new pace.Moved) = moves_of old < moves_of new
IsPaced old (step.Goes new pace.Blocked) = moves_of new ≡ moves_of old
IsPaced old (step.Goes new pace.Turned) = moves_of old < moves_of new
IsPaced old (step.Ends new) = ⊤

-- this holds of the phase in which it goes on
abbrev pub IfGoes : {S : Type 0} → Step S → (Phase S → Type 0) → Type 0
IfGoes (step.Goes new pace) P = P new
IfGoes (step.Ends new) P = ⊤

-- it is idle as before, or since now, where something moved
pub record IsIdleSince (moves later : ℕ) (old now new : Duration) : Type 0 where
  pub on : moves ≤ later
  pub idle : later ≡ moves → new ≡ old
  pub busy : moves < later → new ≡ now

-- ---- since when its time runs

-- so many phases of it are over
abbrev pub turns_of : {S : Type 0} → Phase S → ℕ
turns_of (phase.Reading reading) = 0
turns_of (phase.Writing writing) = 1
turns_of (phase.Draining draining) = 2

-- a step ends a phase exactly where it says so
abbrev pub IsTurned : {S : Type 0} → Phase S → Step S → Type 0
IsTurned old (step.Goes new pace.Turned) = turns_of old < turns_of new
IsTurned old (step.Goes new pace.Moved) = turns_of new ≡ turns_of old
IsTurned old (step.Goes new pace.Blocked) = turns_of new ≡ turns_of old
IsTurned old (step.Ends new) = ⊤

-- The time of a phase that goes on began as before. That of a new one has not begun.
pub record IsBegun (turns later : ℕ) (old new : Option Duration) : Type 0 where
  pub on : turns ≤ later
  pub same : later ≡ turns → new ≡ old
  pub turned : turns < later → new ≡ None
