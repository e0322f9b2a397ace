-- The effects of reads on a reader, and what the bytes say that were read.
use Rattle.std.specs.Prelude.{◌≡◌, ℕ, ◌≤◌, List, [], ◌++◌, length, Option, Result, Ok, Err, ⊤}
use Rattle.std.specs.Io.KnownBytes.{Consumes, IsAtEnd}
use Rattle.bor_http.specs.Incoming.Counted.{after_fault}
use Rattle.bor_http.specs.declared.incoming.fault.Refusal.{Refusal}
use Rattle.bor_http.specs.Incoming.Message.{Message}
use Rattle.bor_http.specs.Incoming.Progress.{IsWhole}
use Rattle.bor_http.specs.Incoming.Refusals.{IsMessage}
use Rattle.bor_http.specs.declared.incoming.fault.WireFault.{WireFault}
use Rattle.bor_http.specs.declared.incoming.fault.WireFault.TheVariants.{Refused, Read, Memory}

-- The reader failed, or memory ran out. Where the reader failed, the bytes that it gave, from the
-- first of `known` on, are no whole request.
abbrev pub IsReadInPart : Option (List ℕ) → Option (List ℕ) → WireFault → Type 0
IsReadInPart known left (Refused r) = ⊥
IsReadInPart known left Read = (bytes : List ℕ) × Consumes known left bytes × ¬ (IsWhole bytes)
IsReadInPart known left Memory = ⊤

-- the count of faults goes up by one exactly where the answer is a read's fault
abbrev pub FaultTells : WireFault → ℕ → ℕ → Type 0
FaultTells (Refused r) old new = new ≡ old
FaultTells Read old new = new ≡ after_fault old
FaultTells Memory old new = new ≡ old

abbrev pub FaultsTell : {X : Type 0} → Result X WireFault → ℕ → ℕ → Type 0
FaultsTell (Ok x) old new = new ≡ old
FaultsTell (Err e) old new = FaultTells e old new

-- the input is refused so, or memory ran out; no reader was asked
abbrev pub IsRefusedAs : List ℕ → WireFault → Type 0
IsRefusedAs input (Refused why) = IsMessage input (Err why)
IsRefusedAs input Read = ⊥
IsRefusedAs input Memory = ⊤

-- the input is this message and whatever follows it, or is refused so, or memory ran out
abbrev pub IsReadAs : List ℕ → Result Message WireFault → Type 0
IsReadAs input (Ok m) = IsMessage input (Ok m)
IsReadAs input (Err e) = IsRefusedAs input e

-- what these bytes are, a message or refused, the whole input is
abbrev pub SaysAll : List ℕ → List ℕ → Type 0
SaysAll bytes input =
    (read : Result Message Refusal) → IsMessage bytes read → IsMessage input read

-- at most n bytes were taken of the reader
abbrev pub TakesAtMost : ℕ → Option (List ℕ) → Option (List ℕ) → Type 0
TakesAtMost n known left = (bytes : List ℕ) × Consumes known left bytes × (length bytes ≤ n)

-- ---- one read, for clauses of private functions alone

-- these bytes were taken by a read that failed: none, or there was no memory for them
abbrev pub IsLost : List ℕ → WireFault → Type 0
IsLost bytes (Refused r) = ⊥
IsLost bytes Read = bytes ≡ []
IsLost bytes Memory = ⊤

-- the bytes that were read stand behind the old ones, so many, and none only at the end
abbrev pub HasCome : Option (List ℕ) → List ℕ → List ℕ → List ℕ → Result ℕ WireFault → Type 0
HasCome left old new bytes (Ok n) =
    (new ≡ old ++ bytes) × (length bytes ≡ n) × (n ≡ 0 → IsAtEnd left)
HasCome left old new bytes (Err e) = IsLost bytes e

-- bytes were taken of the reader, at most so many, and have come
pub record TakesPiece (known left : Option (List ℕ)) (old new : List ℕ) (limit : ℕ)
    (result : Result ℕ WireFault) : Type 0 where
  pub bytes : List ℕ
  pub consumed : Consumes known left bytes
  pub within : length bytes ≤ limit
  pub came : HasCome left old new bytes result
