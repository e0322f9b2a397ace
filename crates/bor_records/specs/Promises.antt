-- The meaning of a keep's states, or of a source's, and the promises of calls by it. Those on the
-- value that is shown, on answers and on faults hold where a value was shown and the call ends
-- clean; those on the state that a stop leaves, where the store has returned what was written;
-- those on states that stay clean, there too; those on the count of faults, always.
use Rattle.std.specs.Prelude.{◌≡◌, ◌⊎◌, ◌↔◌, ℕ, ◌+◌, ◌%◌, ◌^◌, Result, Ok, Err, IfOk, IfErr}

-- The meaning of states S that show values V, whose calls may answer faults F, and which a stop, as
-- a crash, leaves as states W for the next one to open.
pub record Meaning (S V W F : Type 0) : Type 1 where
  -- the state shows the value: none, one or more
  pub shows : S → V → Type 0
  -- its store has returned what was written, and is open
  pub is_clean : S → Type 0
  -- its store has returned what was written; it may have shut since
  pub is_sound : S → Type 0
  -- a stop in this state may leave that one
  pub may_leave : S → W → Type 0
  -- whoever opens that one next is shown the value
  pub left_shows : W → V → Type 0
  -- how many calls have answered a fault, modulo 2^64
  pub fault_count : S → ℕ
  -- a call may answer this fault
  pub may_tell : F → Type 0

-- A later state that is clean shows what the earlier one did, and no more; and that one was clean.
-- Where the store of the later state has returned what was written, so had that of the earlier one,
-- and a stop leaves only what one before might have left.
pub record Kept {S V W F : Type 0} (meaning : Meaning S V W F) (old new : S) : Type 0 where
  pub began : meaning.is_clean new → meaning.is_clean old
  pub same : meaning.is_clean new → (v : V) → meaning.shows old v ↔ meaning.shows new v
  pub sound : meaning.is_sound new → meaning.is_sound old
  pub stops : meaning.is_sound new
      → (left : W) → meaning.may_leave new left → meaning.may_leave old left

-- A state that ends clean began clean. Where the store of the later state has returned what was
-- written, so had that of the earlier one, and a stop leaves only what one before might have left;
-- or, where the earlier state was clean, what is made of the value that it showed.
pub record Leaves {S V W F : Type 0} (meaning : Meaning S V W F) (old new : S)
    (IsMade : V → W → Type 0) : Type 0 where
  pub began : meaning.is_clean new → meaning.is_clean old
  pub sound : meaning.is_sound new → meaning.is_sound old
  pub stops : meaning.is_sound new → (left : W) → meaning.may_leave new left
      → meaning.may_leave old left
      ⊎ (meaning.is_clean old × ((v : V) → meaning.shows old v → IsMade v left))

-- Where the store of the later state has returned what was written, so had that of the earlier one,
-- and the later one is clean if the earlier one was.
pub record StaysClean {S V W F : Type 0} (meaning : Meaning S V W F) (old new : S) : Type 0 where
  pub sound : meaning.is_sound new → meaning.is_sound old
  pub clean : meaning.is_sound new → meaning.is_clean old → meaning.is_clean new

-- Where a value was shown and the call ended clean, this holds of it.
abbrev pub Promised : {S V W F : Type 0} → Meaning S V W F → S → S → (V → Type 0) → Type 0
Promised {S} {V} meaning old new P = (v : V) → meaning.shows old v → meaning.is_clean new → P v

-- Where a clean state shows a value, this holds of it.
abbrev pub Sure : {S V W F : Type 0} → Meaning S V W F → S → (V → Type 0) → Type 0
Sure {S} {V} meaning state P = (v : V) → meaning.shows state v → meaning.is_clean state → P v

-- each fault adds one, modulo 2^64, and nothing else changes the count
abbrev pub counted : {T F : Type 0} → Result T F → ℕ → ℕ
counted (Ok x) faults = faults
counted (Err e) faults = (faults + 1) % 2 ^ 64

-- a call that changes the value to this one, or answers a fault and leaves it
abbrev pub left_by : {T F V : Type 0} → Result T F → V → V → V
left_by (Ok x) changed v = changed
left_by (Err e) changed v = v

-- The promises of a read: the value that was shown is shown, an answer leaves a clean state clean
-- and the count as it is, a fault adds one to the count and is one that may be returned, P holds
-- of an answer, and a stop leaves only what one before might have left.
pub record Reads {S V W T F : Type 0} (meaning : Meaning S V W F) (old new : S)
    (result : Result T F) (P : V → T → Type 0) : Type 0 where
  pub kept : Kept meaning old new
  pub lasts : IfOk result (λ x. StaysClean meaning old new)
  pub counts : meaning.fault_count new ≡ counted result (meaning.fault_count old)
  pub told : Promised meaning old new (λ v. IfErr result meaning.may_tell)
  pub answer : Promised meaning old new (λ v. IfOk result (P v))

-- The promises of a change: the value that is shown is the one that the change makes of the earlier
-- one, or the earlier one where a fault is answered. A fault adds one to the count and is one that
-- may be returned, and an answer leaves a clean state clean. The rest is `Leaves`: a stop leaves
-- only what one before might have left, or what shows the changed value.
pub record Changes {S V W T F : Type 0} (meaning : Meaning S V W F) (old new : S)
    (result : Result T F) (change : V → V) : Type 0 where
  pub leaves : Leaves meaning old new (λ v left. meaning.left_shows left (change v))
  pub lasts : IfOk result (λ x. StaysClean meaning old new)
  pub counts : meaning.fault_count new ≡ counted result (meaning.fault_count old)
  pub told : Promised meaning old new (λ v. IfErr result meaning.may_tell)
  pub changed : Promised meaning old new (λ v. meaning.shows new (left_by result (change v) v))

-- The promises of a change of which nothing has to be known before: those of `Changes`, of each
-- value that it fits. A fault leaves what was shown, whether or not the change fits it.
pub record ChangesWhere {S V W T F : Type 0} (meaning : Meaning S V W F) (old new : S)
    (result : Result T F) (Fits : V → Type 0) (change : V → V) : Type 0 where
  pub leaves : Leaves meaning old new (λ v left. Fits v → meaning.left_shows left (change v))
  pub lasts : IfOk result (λ x. StaysClean meaning old new)
  pub counts : meaning.fault_count new ≡ counted result (meaning.fault_count old)
  pub told : Promised meaning old new (λ v. Fits v → IfErr result meaning.may_tell)
  pub failed : Promised meaning old new (λ v. IfErr result (λ e. meaning.shows new v))
  pub made : Promised meaning old new
      (λ v. Fits v → IfOk result (λ x. meaning.shows new (change v)))
