-- A reply as it is sent.
use Rattle.std.specs.Prelude.{ℕ, List, ⊤}
use Rattle.bor_wire.specs.declared.rendering.reply.TheConstants.{UNAVAILABLE}
use Rattle.bor_wire.specs.Refused.{IsFull}

-- A whole reply, with its status and its bytes; or the one where memory was wanting or the keep
-- failed.
pub data Sent : Type 0 where
  Full : (status : ℕ) → (bytes : List ℕ) → Sent
  Unavailable : Sent

abbrev pub status_sent : Sent → ℕ
status_sent (Full status bytes) = status
status_sent Unavailable = 503

abbrev pub bytes_sent : Sent → List ℕ
bytes_sent (Full status bytes) = bytes
bytes_sent Unavailable = UNAVAILABLE.now

-- a whole reply begins with its status, which isn't 503
abbrev pub TellsStatus : Sent → Type 0
TellsStatus (Full status bytes) = IsFull bytes status
TellsStatus Unavailable = ⊤

-- P, where the reply is whole
abbrev pub IfFull : Sent → Type 0 → Type 0
IfFull (Full status bytes) P = P
IfFull Unavailable P = Unit {0}
