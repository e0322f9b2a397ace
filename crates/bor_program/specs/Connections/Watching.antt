-- The calls of a server to its watch, and their results.
use Rattle.std.specs.Prelude.{◌≡◌, ◌≤◌, ◌<◌, ◌⊎◌, ◌+◌, ℕ, List, [], ◌∷◌, ◌++◌, Bool, true, false}
use Rattle.std.specs.Prelude.{count_by, map, ⊤, Option, None, Some, Result, Ok, Err}
use Rattle.std.specs.List.{All, list_any}
use Rattle.std.specs.declared.time.Duration.{Duration}
use Rattle.bor_program.specs.declared.log.Note.{Note}

-- whether a client came in
pub data Coming : Type 0 where
  -- one did
  Somebody : Coming
  -- none waits for it
  Nobody : Coming
  -- one could not be let in, and is lost
  Refused : Coming

-- whether one did by this result
abbrev pub coming : {S E : Type 0} → Result (Option S) E → Coming
coming (Ok (Some stream)) = Somebody
coming (Ok None) = Nobody
coming (Err error) = Refused

-- a call of a watch, and whether it failed
pub data Act : Type 0 where
  -- it is to watch for clients that come in
  Listens : (failed : Bool) → Act
  -- it lets a client in, if one waits for it
  Accepts : (came : Coming) → Act
  -- it is to watch a client
  Watches : (failed : Bool) → Act
  -- it waits until something may be read or written, so long at most
  Waits : (limit : Option Duration) → (failed : Bool) → Act
  -- it notes a request that was answered
  Notes : (note : Note) → Act

-- these calls, one after the other, lead from one state of a watch to another
abbrev pub AreDone : {W : Type 0} → (W → Act → W → Type 0) → W → List Act → W → Type 0
AreDone does old [] new = new ≡ old
AreDone {W} does old (act ∷ rest) new = (next : W) × does old act next × AreDone does next rest new

-- these notes, and no other, are given to a watch one after the other
abbrev pub AreTold : {W : Type 0} → (W → Act → W → Type 0) → W → List Note → W → Type 0
AreTold does old notes new = AreDone does old (map Notes notes) new

-- ---- the results of the calls

abbrev pub is_deaf : Act → Bool
is_deaf (Listens failed) = failed
is_deaf (Accepts came) = false
is_deaf (Watches failed) = false
is_deaf (Waits limit failed) = false
is_deaf (Notes note) = false

abbrev pub is_refusal : Act → Bool
is_refusal (Listens failed) = false
is_refusal (Accepts Somebody) = false
is_refusal (Accepts Nobody) = false
is_refusal (Accepts Refused) = true
is_refusal (Watches failed) = false
is_refusal (Waits limit failed) = false
is_refusal (Notes note) = false

-- a client came in
abbrev pub is_coming : Act → Bool
is_coming (Listens failed) = false
is_coming (Accepts Somebody) = true
is_coming (Accepts Nobody) = false
is_coming (Accepts Refused) = false
is_coming (Watches failed) = false
is_coming (Waits limit failed) = false
is_coming (Notes note) = false

-- it is asked for a client
abbrev pub is_asking : Act → Bool
is_asking (Listens failed) = false
is_asking (Accepts came) = true
is_asking (Watches failed) = false
is_asking (Waits limit failed) = false
is_asking (Notes note) = false

-- a client can't be watched
abbrev pub is_unwatched : Act → Bool
is_unwatched (Listens failed) = false
is_unwatched (Accepts came) = false
is_unwatched (Watches failed) = failed
is_unwatched (Waits limit failed) = false
is_unwatched (Notes note) = false

abbrev pub is_wait : Act → Bool
is_wait (Listens failed) = false
is_wait (Accepts came) = false
is_wait (Watches failed) = false
is_wait (Waits limit failed) = true
is_wait (Notes note) = false

-- the notes that are given by these calls
abbrev pub notes_of : Act → List Note
notes_of (Listens failed) = []
notes_of (Accepts came) = []
notes_of (Watches failed) = []
notes_of (Waits limit failed) = []
notes_of (Notes note) = note ∷ []

abbrev pub notes_in : List Act → List Note
notes_in [] = []
notes_in (act ∷ rest) = notes_of act ++ notes_in rest

-- this holds of how long a call may wait, where it does
abbrev pub OnWait : (Option Duration → Type 0) → Act → Type 0
OnWait P (Listens failed) = ⊤
OnWait P (Accepts came) = ⊤
OnWait P (Watches failed) = ⊤
OnWait P (Waits limit failed) = P limit
OnWait P (Notes note) = ⊤

-- so many clients could not be let in
abbrev pub refused_in : List Act → ℕ
refused_in acts = count_by is_refusal acts

abbrev pub waits_in : List Act → ℕ
waits_in acts = count_by is_wait acts

-- so many waits have failed one after the other, up to now
abbrev pub faults_with : ℕ → Act → ℕ
faults_with before (Listens failed) = before
faults_with before (Accepts came) = before
faults_with before (Watches failed) = before
faults_with before (Waits limit true) = before + 1
faults_with before (Waits limit false) = 0
faults_with before (Notes note) = before

abbrev pub faults_after : ℕ → List Act → ℕ
faults_after before [] = before
faults_after before (act ∷ rest) = faults_after (faults_with before act) rest

-- ---- when a server ends

-- after so many waits that failed, one after the other, a server gives up
abbrev pub fault_limit : ℕ
fault_limit = 1000

-- and after so many waits at all, which no machine lives to see
abbrev pub wait_limit : ℕ
wait_limit = 18446744073709551615

-- A server may end before all its clients came: clients can't be watched for, or so many waits
-- failed one after the other, or there were so many.
abbrev pub IsOver : List Act → Type 0
IsOver acts =
    (list_any is_deaf acts ≡ true)
    ⊎ ((fault_limit ≤ faults_after 0 acts) ⊎ (wait_limit ≤ waits_in acts))

-- no client came on so many connections: as many as could not be let in, and others only where the
-- server may end
abbrev pub IsExcused : List Act → ℕ → Type 0
IsExcused acts absent =
    (missing : ℕ) × (absent ≡ refused_in acts + missing) × (0 < missing → IsOver acts)

-- these calls, none of which waits, lead from one state of a watch to another; so many clients
-- could not be let in, and these notes were given
pub record DoesUnwaiting {W : Type 0} (does : W → Act → W → Type 0) (old new : W)
    (refused : ℕ) (notes : List Note) : Type 0 where
  pub acts : List Act
  pub done : AreDone does old acts new
  pub refusals : refused_in acts ≡ refused
  pub waits : waits_in acts ≡ 0
  pub faults : (before : ℕ) → faults_after before acts ≡ before
  pub unwaited : All (OnWait (λ limit. ⊥)) acts
  pub noted : notes_in acts ≡ notes

-- these notes were given and it waited once, so long at most; and so many waits had failed before,
-- one after the other, and have now
pub record WaitsOnce {W : Type 0} (does : W → Act → W → Type 0) (old new : W)
    (before now : ℕ) (notes : List Note) (limit : Option Duration) : Type 0 where
  pub acts : List Act
  pub done : AreDone does old acts new
  pub refusals : refused_in acts ≡ 0
  pub waits : waits_in acts ≡ 1
  pub faults : faults_after before acts ≡ now
  pub within : All (OnWait (λ asked. asked ≡ limit)) acts
  pub noted : notes_in acts ≡ notes
