-- The rows that a query finds.
use Rattle.std.specs.Prelude.{◌≡◌, ℕ, List, false, Vec, Result, IfOk}
use Rattle.std.specs.declared.alloc.Global.{Global}
use Rattle.sqlite.specs.Given.{Returns}
use Rattle.sqlite.specs.Held.{Held, state}
use Rattle.sqlite.specs.Listing.{understood}
use Rattle.sqlite.specs.Order.{Row}
use Rattle.sqlite.specs.Schema.{Schema}
use Rattle.sqlite.specs.State.{State, HasCleanDisk, Shown}
use Rattle.sqlite.specs.Store.{Ghosts}
use Rattle.sqlite.specs.declared.error.Error.{Error}
use Rattle.bor_register.specs.Register.{Register}
use Rattle.bor_store_sql.specs.Ran.{LeavesNoMore}
use Rattle.bor_store_sql.specs.Shown.{IsClean, IsUp, ShowsIn, ShowsLists}

-- under no schema the text is a change that returns rows
abbrev pub IsQuery : List ℕ → Type 0
IsQuery text = (schema : Schema) → Returns (understood schema text) → ⊥

-- Reading changes nothing. A transaction is open afterwards just where one was before; a disk that
-- has returned what was written had done so before, and a stop leaves nothing that one before might
-- not have left; a connection that ends clean began clean, and what was written stays as it was.
pub record ReadsOnly (old new : State) : Type 0 where
  pub mode : new.in_transaction ≡ old.in_transaction
  pub clean : HasCleanDisk new → HasCleanDisk old
  pub stops : LeavesNoMore old new
  pub began : IsClean new → IsClean old
  pub kept : IsClean new → new.committed ≡ old.committed

-- A query was asked of what the last commit left, or a fault is answered. Rows come from a
-- connection that has no transaction open and, if its disk has returned what was written, is open.
pub record AnswersQuery (text : List ℕ) (params : Row) (old new : State)
    (result : Result (Vec Row Global) Error) : Type 0 where
  pub reads : ReadsOnly old new
  pub settled : IfOk result (λ rows. old.in_transaction ≡ false)
  pub up : IfOk result (λ rows. IsUp new)
  pub shown : IsClean new
      → IfOk result (λ rows. (old.now ≡ old.committed) × Shown text params old new rows.items)

-- Of a register that is shown in this way the query gives these rows, or a fault; it gives none
-- where a transaction is open.
pub record FindsRows (Shows : Register → State → Type 0) (old new : State)
    (result : Result (Vec Row Global) Error) (rows_of : Register → List Row) : Type 0 where
  pub reads : ReadsOnly old new
  pub settled : IfOk result (λ rows. old.in_transaction ≡ false)
  pub up : IfOk result (λ rows. IsUp new)
  pub rows : IsClean new → (r : Register) → Shows r old
      → IfOk result (λ rows. rows.items ≡ rows_of r)

-- the same of a connection, which shows a register
abbrev pub Finds : {S : Type 0} → Ghosts S → Held S → Held S → Result (Vec Row Global) Error
    → (Register → List Row) → Type 0
Finds g old new result rows_of = FindsRows ShowsIn (state g old) (state g new) result rows_of

-- the same of one that shows a register in either version
abbrev pub FindsBoth : {S : Type 0} → Ghosts S → Held S → Held S → Result (Vec Row Global) Error
    → (Register → List Row) → Type 0
FindsBoth g old new result rows_of = FindsRows ShowsLists (state g old) (state g new) result rows_of
