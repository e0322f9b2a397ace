-- The effects of a transaction, for clauses of private functions alone.
use Rattle.std.specs.Prelude.{◌≡◌, ◌⊎◌, ℕ, List, [], ◌∷◌, Ok, Err, Result, OnOk, OnErr, IsErr}
use Rattle.std.specs.Prelude.{IsOk, IsTrue}
use Rattle.sqlite.specs.Effect.{Database}
use Rattle.sqlite.specs.Held.{Held, state}
use Rattle.sqlite.specs.Order.{Row}
use Rattle.sqlite.specs.State.{State, HasCleanDisk, ExecutesInside, IsUnchanged, IsRolledBack}
use Rattle.sqlite.specs.Store.{Ghosts}
use Rattle.sqlite.specs.Tree.{Trees}
use Rattle.sqlite.specs.declared.error.Error.{Error}

-- the text was run, or failed and may have ended the transaction
abbrev pub RunsInside : List ℕ → Row → State → State → Result (Unit {0}) Error → Type 0
RunsInside text params old new (Ok x) =
    (count : ℕ) × ExecutesInside 0 text params old new (Ok count)
RunsInside text params old new (Err e) = IsUnchanged old new ⊎ IsRolledBack old new

-- A stop after the call leaves nothing for the next one to open the files that a stop before it
-- might not have left, if the disk has returned what was written.
abbrev pub LeavesNoMore : State → State → Type 0
LeavesNoMore old new =
    HasCleanDisk new → (trees : Trees) → new.may_leave trees → old.may_leave trees

-- On a disk that has returned what was written, statements of a transaction that was under way went
-- well only where the connection was open.
abbrev pub RanOpenIn : State → State → Result (Unit {0}) Error → Type 0
RanOpenIn old new result =
    HasCleanDisk new → IsTrue old.in_transaction → OnOk result (IsTrue old.is_open)

-- The text was run in the transaction that was under way, with these parameters.
pub record Ran (text : List ℕ) (params : Row) (old new : State)
    (result : Result (Unit {0}) Error) : Type 0 where
  pub clean : HasCleanDisk new → HasCleanDisk old
  pub stops : LeavesNoMore old new
  pub inside : HasCleanDisk new → IsTrue old.in_transaction → RunsInside text params old new result
  pub opened : RanOpenIn old new result

-- the texts were run one after the other, until one failed
abbrev pub RanInTurn : {S : Type 0} → Ghosts S → List (List ℕ) → Row → Held S → Held S
    → Result (Unit {0}) Error → Type 0
RanInTurn g [] params old new result = (old ≡ new) × (Ok (tt {0}) ≡ result)
RanInTurn {S} g (text ∷ texts) params old new result =
    ((mid : Held S) × Ran text params (state g old) (state g mid) (Ok (tt {0}))
    × RanInTurn g texts params mid new result)
    ⊎ ((e : Error) × Ran text params (state g old) (state g new) (Err e) × IsErr result)

pub record RanEach {S : Type 0} (g : Ghosts S) (texts : List (List ℕ)) (params : Row)
    (old new : Held S) (result : Result (Unit {0}) Error) : Type 0 where
  pub in_turn : RanInTurn g texts params old new result

-- the database after statements that went well; a failure may have ended the transaction
pub record Moved (Makes : Database → Database → Type 0) (old new : State)
    (result : Result (Unit {0}) Error) : Type 0 where
  pub was_open : IsTrue new.is_open → IsTrue old.is_open
  pub committed : IsTrue new.is_open → new.committed ≡ old.committed
  pub goes_on : OnOk result (IsTrue new.in_transaction)
  pub made : OnOk result (Makes old.now new.now)

-- Statements of a transaction that was under way, on a disk that has returned what was written,
-- make such a change of the database.
pub record MovesTo (Makes : Database → Database → Type 0) (old new : State)
    (result : Result (Unit {0}) Error) : Type 0 where
  pub clean : HasCleanDisk new → HasCleanDisk old
  pub stops : LeavesNoMore old new
  pub inside : HasCleanDisk new → IsTrue old.in_transaction → Moved Makes old new result

-- ---- the same of a connection

abbrev pub Moves : {S : Type 0} → Ghosts S → Held S → Held S → Result (Unit {0}) Error
    → (Database → Database → Type 0) → Type 0
Moves g old new result Makes = MovesTo Makes (state g old) (state g new) result

abbrev pub RanOpen : {S : Type 0} → Ghosts S → Held S → Held S → Result (Unit {0}) Error → Type 0
RanOpen g old new result = RanOpenIn (state g old) (state g new) result

-- ---- the end

-- A transaction ends: it is committed where all went well that was done in it, and the connection
-- is open then; else it is undone. A stop leaves what it might have left before or, where all went
-- well that was done, what was written in the transaction.
pub record Ends (old new : State) (done result : Result (Unit {0}) Error) : Type 0 where
  pub clean : HasCleanDisk new → HasCleanDisk old
  pub stops : HasCleanDisk new → (trees : Trees) → new.may_leave trees
      → old.may_leave trees ⊎ (IsOk done × (trees ≡ old.now.trees))
  pub was_open : HasCleanDisk new → IsTrue new.is_open → IsTrue old.is_open
  pub committed : HasCleanDisk new → OnOk result (IsOk done × (new.committed ≡ old.now))
  pub up : HasCleanDisk new → OnOk result (IsTrue new.is_open)
  pub undone : HasCleanDisk new → IsTrue new.is_open → OnErr result (new.committed ≡ old.committed)
