-- The register after a refusal.
use Rattle.std.specs.Prelude.{◌≡◌, ◌≢◌, ◌≤◌, ℕ, List, [], ◌∷◌, ◌++◌}
use Rattle.bor_register.specs.Register.{Register}
use Rattle.bor_wire.specs.Spelling.Spell.{Spelled}
use Rattle.bor_wire.specs.Rendering.Heads.{status_line}
use Rattle.bor_wire.specs.Inputs.{after}

-- the bytes begin with the status line of this status
abbrev pub HasStatus : List ℕ → ℕ → Type 0
HasStatus bytes status = (rest : List ℕ) × (bytes ≡ status_line status ++ rest)

-- The bytes are those of a full reply with this status: they begin with its line, and it isn't 503.
pub record IsFull (bytes : List ℕ) (status : ℕ) : Type 0 where
  pub line : HasStatus bytes status
  pub served : status ≢ 503

-- of these bytes as the reply to an input: where their status is 400 or more, the register after it
-- is the one before
abbrev pub LeavesWhereRefused : Register → Spelled → List ℕ → Type 0
LeavesWhereRefused r spelled bytes =
    (status : ℕ) → HasStatus bytes status → 400 ≤ status → after r spelled ≡ r

-- so does each reply of a run
abbrev pub RefusalsLeave : Register → List Spelled → List (List ℕ) → Type 0
RefusalsLeave r [] [] = Unit {0}
RefusalsLeave r (spelled ∷ rest) (bytes ∷ replies) =
    LeavesWhereRefused r spelled bytes × RefusalsLeave (after r spelled) rest replies
RefusalsLeave r inputs replies = ⊥
