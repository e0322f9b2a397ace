-- The effects of a server, for clauses of private functions alone.
use Rattle.bor_register.specs.declared.fault.StoreFault.{StoreFault}
use Rattle.bor_records.specs.Promises.{Meaning}
use Rattle.std.specs.Prelude.{◌≡◌, ◌≤◌, ◌<◌, ◌+◌, ℕ, List, [], ◌∷◌, ◌++◌, length, map, get_or}
use Rattle.std.specs.Prelude.{remove, Option, Some, None, if◌then◌else◌, Bool, true, false, set}
use Rattle.std.specs.Prelude.{◌⊎◌, unwrap_or}
use Rattle.std.specs.Duration.{as_nanos}
use Rattle.std.specs.declared.time.Duration.{Duration}
use Rattle.std.specs.VecDeque.{deque_capacity, deque_len}
use Rattle.std.specs.List.{All, list_any}
use Rattle.std.specs.List.Sorted.{IsPermutation}
use Rattle.bor_register.specs.Register.{Register}
use Rattle.bor_program.specs.declared.connections.limits.Limits.{Limits}
use Rattle.bor_program.specs.declared.connections.phase.Phase.TheVariants as phase
use Rattle.bor_program.specs.declared.connections.reading.Reading.{Reading}
use Rattle.bor_program.specs.declared.connections.server.Client.{Client}
use Rattle.bor_program.specs.declared.connections.server.Server.{Server}
use Rattle.bor_program.specs.declared.connections.watch.Places.{Places}
use Rattle.bor_program.specs.declared.log.Note.{Note}
use Rattle.bor_program.specs.Courses.{Course}
use Rattle.bor_program.specs.Connections.Serving.{GivenReply, Ended, IsServing, Tally, absent_in}
use Rattle.bor_program.specs.Connections.Serving.{has_failed, told_in}
use Rattle.bor_program.specs.Connections.Streams.{EndedOn, Wire}
use Rattle.bor_program.specs.Connections.Phases.{IsHeld, ReadsOn, telling}
use Rattle.bor_program.specs.Connections.Places.{is_place_taken, is_ready, taken_in}
use Rattle.bor_program.specs.Connections.Times.{IsBegun, IsIdleSince, IsOverdue, IsPatient}
use Rattle.bor_program.specs.Connections.Times.{IsTaking, IsTimeLeft, IsTimeUp, fresh, moves_of}
use Rattle.bor_program.specs.Connections.Times.{taking_once_read, turns_of}
use Rattle.bor_program.specs.Connections.Watching.{Act, AreDone, DoesUnwaiting, IsOver, OnWait}
use Rattle.bor_program.specs.Connections.Watching.{is_asking, is_coming, is_unwatched, notes_in}
use Rattle.bor_program.specs.Connections.Watching.{refused_in}

-- the answers that are being sent to these clients
abbrev pub telling_to : {S : Type 0} → List (Client S) → List GivenReply
telling_to [] = []
telling_to (client ∷ rest) = telling client.phase ++ telling_to rest

-- the facts that are known of each of them
abbrev pub AreHeld : {S : Type 0} → Wire S → List (Client S) → Type 0
AreHeld wire [] = Unit {0}
AreHeld wire (client ∷ rest) = IsHeld wire client.phase × AreHeld wire rest

abbrev pub telling_in : {S : Type 0} → Server S → List GivenReply
telling_in server = telling_to server.queue.items

-- how many connections have not ended
abbrev pub pending_in : {S : Type 0} → Server S → ℕ
pending_in server = length server.queue.items + server.left

-- since when each of these clients is idle: nothing was read of it or written to it since then
abbrev pub idle_times : {S : Type 0} → List (Client S) → List ℕ
idle_times clients = map (λ client. as_nanos client.timing.idle_since) clients

-- the client at this place is idle for the longest: since no later than any other
pub record IsLongestIdle {S : Type 0} (clients : List (Client S)) (place : ℕ) : Type 0 where
  pub there : place < length clients
  pub longest : (other : ℕ) → other < length clients
      → get_or (idle_times clients) place 0 ≤ get_or (idle_times clients) other 0

-- of these clients, one that is idle for the longest leaves the others, where there is one
abbrev pub GivesWay : {S : Type 0} → List (Client S) → List (Client S) → Type 0
GivesWay old new = 0 < length old → (place : ℕ) × IsLongestIdle old place × (new ≡ remove old place)

-- ---- places

-- The places that are taken are those of these clients, each of one client: once they have left
-- them, one after the other, none is taken.
abbrev pub AreSeated : {S : Type 0} → List Bool → List (Client S) → Type 0
AreSeated taken [] = taken_in taken ≡ 0
AreSeated taken (client ∷ rest) =
    (is_place_taken taken client.place ≡ true) × AreSeated (set taken client.place false) rest

-- this client has come in now, and nothing was read of it
pub record HasComeNow {S : Type 0} (now : Duration) (client : Client S) : Type 0 where
  pub reading : Reading S
  pub phase : client.phase ≡ phase.Reading reading
  pub received : reading.received.items ≡ []
  pub timing : client.timing ≡ fresh now

-- these clients end with one that has come in now
abbrev pub EndsWithNew : {S : Type 0} → Duration → List (Client S) → Type 0
EndsWithNew {S} now clients =
    (others : List (Client S)) × (client : Client S)
    × (clients ≡ others ++ client ∷ []) × HasComeNow now client

-- where these calls let a client in that can be watched, it has come in now, and is in its place
pub record Welcomes {W S : Type 0} (calls : Course W Act) (now : Duration)
    (clients : List (Client S)) : Type 0 where
  pub acts : List Act
  pub done : AreDone calls.does calls.begun acts calls.ended
  pub comes : list_any is_coming acts ≡ true → list_any is_unwatched acts ≡ false
      → EndsWithNew now clients

-- these calls ask for who waits to come in
pub record AsksWhoComes {W : Type 0} (calls : Course W Act) : Type 0 where
  pub acts : List Act
  pub done : AreDone calls.does calls.begun acts calls.ended
  pub asks : list_any is_asking acts ≡ true

-- there is room for one more client
abbrev pub HasRoom : {S : Type 0} → Server S → Type 0
HasRoom server = deque_len server.queue < deque_capacity server.queue

-- ---- the time of a client

-- this client is put behind the others, which is sure where their queue has room for it
pub record StaysInQueue {S : Type 0} (client : Client S) (old new : Server S) : Type 0 where
  pub either : (new.queue.items ≡ old.queue.items)
      ⊎ (new.queue.items ≡ old.queue.items ++ client ∷ [])
  pub room : HasRoom old → new.queue.items ≡ old.queue.items ++ client ∷ []
  pub same : (last : Client S) → new.queue.items ≡ old.queue.items ++ last ∷ [] → last ≡ client

-- The time of this client is looked at: where it is up, it leaves the others as they are; and else
-- it is put behind them in its phase, which is sure where their queue has room for it.
pub record IsTimely {S : Type 0} (now : Duration) (client : Client S)
    (old new : Server S) : Type 0 where
  pub up : IsTimeUp old.limits client.timing client.phase now → new.queue ≡ old.queue
  pub stays : (IsTimeUp old.limits client.timing client.phase now → ⊥)
      → HasRoom old → (last : Client S) × (new.queue.items ≡ old.queue.items ++ last ∷ [])
  pub same : (last : Client S) → new.queue.items ≡ old.queue.items ++ last ∷ []
      → last.phase ≡ client.phase
  pub place : (last : Client S) → new.queue.items ≡ old.queue.items ++ last ∷ []
      → last.place ≡ client.place
  pub idle : (last : Client S) → new.queue.items ≡ old.queue.items ++ last ∷ []
      → last.timing.idle_since ≡ client.timing.idle_since
  pub begun : (last : Client S) → new.queue.items ≡ old.queue.items ++ last ∷ []
      → last.timing.since ≡ Some (unwrap_or client.timing.since now)

-- A client had its turn: where it is put behind the others, this is known of how it takes its
-- reply, and nothing where that was made in this turn, after the clock was read.
abbrev pub IsTimed : {S : Type 0} → Duration → Client S → Server S → Server S → Type 0
IsTimed {S} now client old new =
    (last : Client S) → new.queue.items ≡ old.queue.items ++ last ∷ []
    → IsTaking (taking_once_read client.phase now) last.phase

-- the same, and of what was read of it nothing is forgotten
abbrev pub IsReadOn : {S : Type 0} → (S → Option (List ℕ)) → Client S → Server S → Server S → Type 0
IsReadOn {S} remaining client old new =
    (last : Client S) → new.queue.items ≡ old.queue.items ++ last ∷ []
    → ReadsOn remaining client.phase last.phase

-- the time of its phase began as before, or begins now, where this is a new one or none began
abbrev pub IsBegunOn : {S : Type 0} → Duration → Client S → Server S → Server S → Type 0
IsBegunOn {S} now client old new =
    (last : Client S) → new.queue.items ≡ old.queue.items ++ last ∷ []
    → (since : Option Duration)
    × IsBegun (turns_of client.phase) (turns_of last.phase) client.timing.since since
    × (last.timing.since ≡ Some (unwrap_or since now))

-- it is idle as before, or since now, where bytes were read or written in this turn
abbrev pub IsIdleOn : {S : Type 0} → Duration → Client S → Server S → Server S → Type 0
IsIdleOn {S} now client old new =
    (last : Client S) → new.queue.items ≡ old.queue.items ++ last ∷ []
    → IsIdleSince (moves_of client.phase) (moves_of last.phase)
    client.timing.idle_since now last.timing.idle_since

-- nothing can be read of this client or written to it at the moment: nothing could be when that was
-- last tried, and its place was not named since then
abbrev pub IsStill : {S : Type 0} → Places → Client S → Type 0
IsStill places client =
    (client.timing.is_ready ≡ false) × (is_ready places client.place ≡ false)

-- these clients are those, and behind them the same one in its place, of which nothing was read and
-- to which nothing was written
abbrev pub IsQueuedBehind : {S : Type 0} → List (Client S) → Client S → List (Client S) → Type 0
IsQueuedBehind {S} others client clients =
    (last : Client S) × (clients ≡ others ++ last ∷ []) × (last.place ≡ client.place)
    × (moves_of last.phase ≡ moves_of client.phase)

-- nobody hangs up on a client for which something is waited, while its time isn't up
abbrev pub Remains : {S : Type 0} → Duration → Client S → Server S → Server S → Type 0
Remains now client old new =
    IsStill old.places client → (IsOverdue old.limits client.timing.since client.phase now → ⊥)
    → HasRoom old → IsQueuedBehind old.queue.items client new.queue.items

-- the same of the first of these clients, where the time is known
abbrev pub FirstRemains : {S : Type 0} → Option Duration → Server S → Server S → Type 0
FirstRemains {S} time old new =
    (now : Duration) (client : Client S) (rest : List (Client S)) → time ≡ Some now
    → old.queue.items ≡ client ∷ rest → IsStill old.places client
    → (IsOverdue old.limits client.timing.since client.phase now → ⊥)
    → IsQueuedBehind rest client new.queue.items

-- this client is among these in its place, and of it nothing was read, and nothing written to it
abbrev pub IsSeatedAmong : {S : Type 0} → Client S → List (Client S) → Type 0
IsSeatedAmong {S} client clients =
    (before : List (Client S)) × (behind : List (Client S)) × (last : Client S)
    × (clients ≡ before ++ last ∷ behind) × (last.place ≡ client.place)
    × (moves_of last.phase ≡ moves_of client.phase)

-- so is each of these where nothing may be read of it or written to it, and its time isn't up
abbrev pub AllRemain : {S : Type 0} → Duration → Server S → List (Client S) → List (Client S)
    → Type 0
AllRemain now server clients later =
    All (λ client. IsStill server.places client
    → (IsOverdue server.limits client.timing.since client.phase now → ⊥)
    → IsSeatedAmong client later) clients

-- no place is named that wasn't
abbrev pub NamesNone : Places → Places → Type 0
NamesNone old new = (place : ℕ) → is_ready old place ≡ false → is_ready new place ≡ false

-- ---- how long is waited

-- the wait is no longer than its client's time lasts, and there is none where the client is ready
pub record IsWaitedFor {S : Type 0} (limits : Limits) (now : Duration) (wait : Option Duration)
    (client : Client S) : Type 0 where
  pub left : Duration
  pub lasts : IsTimeLeft limits client.timing.since client.phase now left
  pub time : Duration
  pub is : wait ≡ Some time
  pub within : as_nanos time ≤ as_nanos left
  pub ready : client.timing.is_ready ≡ true → as_nanos time ≡ 0

-- so for each of these clients, where the time is known; and else there are none
abbrev pub AreWaitedFor : {S : Type 0} → Limits → Option Duration → Option Duration
    → List (Client S) → Type 0
AreWaitedFor limits None wait clients = clients ≡ []
AreWaitedFor limits (Some now) wait clients = All (IsWaitedFor limits now wait) clients

-- all clients have come, or none is waiting to come in
abbrev pub IsNobodyToCome : {S : Type 0} → Server S → Type 0
IsNobodyToCome server = (server.left ≡ 0) ⊎ (server.places.is_called ≡ false)

-- there is no wait
abbrev pub IsAtOnce : Option Duration → Type 0
IsAtOnce wait = (time : Duration) × (wait ≡ Some time) × (as_nanos time ≡ 0)

-- the wait becomes no longer
abbrev pub IsNoLonger : Option Duration → Option Duration → Type 0
IsNoLonger old new =
    (before : Duration) → old ≡ Some before
    → (after : Duration) × (new ≡ Some after) × (as_nanos after ≤ as_nanos before)

-- A client or none is put behind these. The next wait is no longer than it was to be, nor than it
-- may be waited for.
pub record Waiting {S : Type 0} (now : Option Duration) (others : List (Client S))
    (old new : Server S) : Type 0 where
  pub limits : new.limits ≡ old.limits
  pub wait : IsNoLonger old.wait new.wait
  pub patient : IsPatient old.limits old.wait → IsPatient old.limits new.wait
  pub clients : List (Client S)
  pub queue : new.queue.items ≡ others ++ clients
  pub waited : AreWaitedFor old.limits now new.wait clients

-- ---- parts that stay the same

-- what it has answered, its limits and its next wait are the same
pub record IsSameElse {S : Type 0} (old new : Server S) : Type 0 where
  pub service : new.service ≡ old.service
  pub limits : new.limits ≡ old.limits
  pub wait : new.wait ≡ old.wait

-- its clients, its connections, its status, its limits and its next wait are the same
pub record Becomes {S : Type 0} (old new : Server S) : Type 0 where
  pub limits : new.limits ≡ old.limits
  pub wait : new.wait ≡ old.wait
  pub queue : new.queue ≡ old.queue
  pub left : new.left ≡ old.left
  pub status : new.status ≡ old.status

-- nothing was answered, and some connections ended, of those that had not ended when these answers
-- were being sent; on so many of them no client came
pub record Lets {S : Type 0} (wire : Wire S) (telling : List GivenReply)
    (pending absent status : ℕ) (new : Server S) : Type 0 where
  pub held : AreHeld wire new.queue.items
  pub ended : List Ended
  pub ended_so : All (EndedOn wire) ended
  pub missing : absent_in ended ≡ absent
  pub count : length ended + pending_in new ≡ pending
  pub told_once : IsPermutation telling (telling_in new ++ told_in ended)
  pub told : new.status ≡ (if list_any has_failed ended then 3 else status)

-- how far this server has come of so many connections, on so many of which no client came, and
-- which has told these notes
abbrev pub tally_in : {S : Type 0} → (connections absent : ℕ) → List Note → Server S → Tally
tally_in connections absent noted server =
    record {
      connections = connections;
      pending = pending_in server;
      absent = absent;
      status = server.status;
      notes = noted ++ server.service.notes.items;
    }

-- the server goes on as one of so many connections, on so many of which no client came, and which
-- has told these notes, whatever it has done before
abbrev pub GoesOnAs : {K S Left : Type 0} → Meaning K Register Left StoreFault → Wire S → K → K
    → (connections absent : ℕ) → List Note → Server S → Type 0
GoesOnAs meaning wire start keep connections absent noted server =
    IsServing meaning (EndedOn wire) start keep (telling_in server)
    (tally_in connections absent noted server)

abbrev pub Advances : {K S Left : Type 0} → Meaning K Register Left StoreFault → Wire S → K → K
    → Server S → Server S → Type 0
Advances {K} meaning wire old_keep new_keep old new =
    (start : K) (connections absent : ℕ) (noted : List Note)
    → GoesOnAs meaning wire start old_keep connections absent noted old
    → GoesOnAs meaning wire start new_keep connections absent noted new

-- the server goes on so, with a client in hand that is being sent this
abbrev pub Serves : {K S Left : Type 0} → Meaning K Register Left StoreFault → Wire S → K → K
    → List GivenReply → Server S → Server S → Type 0
Serves {K} meaning wire old_keep new_keep mine old new =
    (start : K) (connections absent : ℕ) (noted : List Note)
    → IsServing meaning (EndedOn wire) start old_keep (mine ++ telling_in old)
    (record (tally_in connections absent noted old) { pending = pending_in old + 1 })
    → GoesOnAs meaning wire start new_keep connections absent noted new

-- ---- over a watch

-- clients were let in, and some could not be
pub record LetsIn {W S : Type 0} (wire : Wire S) (calls : Course W Act)
    (old new : Server S) : Type 0 where
  pub refused : ℕ
  pub done : DoesUnwaiting calls.does calls.begun calls.ended refused []
  pub lets : Lets wire (telling_in old) (pending_in old) refused old.status new

-- where a server stands: the keep that it serves, its watch, and the server
pub record Standing (K W S : Type 0) : Type 0 where
  pub keep : K
  pub watch : W
  pub server : Server S

-- it went on until all clients came, or it may end
pub record Runs {K W S Left : Type 0} (meaning : Meaning K Register Left StoreFault)
    (does : W → Act → W → Type 0) (wire : Wire S) (begun ended : Standing K W S)
    : Type 0 where
  pub held : AreHeld wire ended.server.queue.items
  pub acts : List Act
  pub done : AreDone does begun.watch acts ended.watch
  pub advances : (start : K) (connections absent : ℕ) (noted : List Note)
      → GoesOnAs meaning wire start begun.keep connections absent noted begun.server
      → GoesOnAs meaning wire start ended.keep connections (refused_in acts + absent)
      (noted ++ notes_in acts) ended.server
  pub patient : All (OnWait (IsPatient begun.server.limits)) acts
  pub over : 0 < ended.server.left → IsOver acts
