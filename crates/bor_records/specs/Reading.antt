-- Reads that are asked one after another, of what may fail meanwhile, as a connection may.
use Rattle.std.specs.Prelude.{Result, IfOk, MatchResult}

-- What reads of states S do, which show values V and may fail with F.
pub record Reading (S V F : Type 0) : Type 1 where
  -- the state shows the value
  pub shows : S → V → Type 0
  -- what was read up to this state is what was shown
  pub is_clean : S → Type 0
  -- reads may lead from the one state to the other, whether they fail or not
  pub leads : S → S → Type 0
  -- so may reads of which each has an answer
  pub lasts : S → S → Type 0
  -- a read may fail with this fault
  pub may_tell : F → Type 0

-- Reads one after another are as one. They leave what is shown, and what ends clean began clean.
pub record ReadsAsOne {S V F : Type 0} (reading : Reading S V F) : Type 0 where
  pub none : (a : S) → reading.leads a a
  pub more : (a b c : S) → reading.leads a b → reading.leads b c → reading.leads a c
  pub lasts_none : (a : S) → reading.lasts a a
  pub lasts_more : (a b c : S) → reading.leads b c → reading.lasts a b → reading.lasts b c
      → reading.lasts a c
  pub began : (a b : S) → reading.leads a b → reading.is_clean b → reading.is_clean a
  pub kept : (a b : S) (v : V) → reading.leads a b → reading.is_clean b → reading.shows a v
      → reading.shows b v

-- A read, or reads one after another. Where a value was shown and they end clean, P holds of an
-- answer, and a fault is one that they may fail with.
pub record ReadsSo {S V T F : Type 0} (reading : Reading S V F) (old new : S) (result : Result T F)
    (P : V → T → Type 0) : Type 0 where
  pub leads : reading.leads old new
  pub lasts : IfOk result (λ x. reading.lasts old new)
  pub answer : reading.is_clean new → (v : V) → reading.shows old v
      → MatchResult result (P v) reading.may_tell
