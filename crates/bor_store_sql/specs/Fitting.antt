-- Whether what a file says is what is kept of its filing.
use Rattle.std.specs.Prelude.{◌≡◌, ◌⊎◌, ◌↔◌, ◌+◌, ℕ, Bool, IsTrue, List, [], ◌∷◌, map, Option, Some}
use Rattle.std.specs.Prelude.{None, Result, IfOk, slice_set}
use Rattle.std.specs.List.{flat_map}
use Rattle.sqlite.specs.Held.{Held, state}
use Rattle.sqlite.specs.Order.{Row, column}
use Rattle.sqlite.specs.State.{State}
use Rattle.sqlite.specs.Store.{Ghosts}
use Rattle.sqlite.specs.Values.{bound_value}
use Rattle.sqlite.specs.declared.error.Error.{Error}
use Rattle.bods_read.specs.declared.statement.Statement.{Statement}
use Rattle.bods_read.specs.declared.statement.Status.{Status}
use Rattle.bor_register.specs.declared.member.Member.{Member}
use Rattle.bor_register.specs.Register.{Register, filings_of}
use Rattle.bor_store_sql.specs.declared.rows.typed.Placed.{Placed}
use Rattle.bor_store_sql.specs.Rows.Placed.{bare, interest_rows, identifier_rows}
use Rattle.bor_store_sql.specs.Rows.Encoding.{statement_columns, interest_columns}
use Rattle.bor_store_sql.specs.Rows.Encoding.{identifier_columns}
use Rattle.bor_store_sql.specs.Selected.{numbered, interests_at, identifiers_at}
use Rattle.bor_store_sql.specs.Found.{ReadsOnly}
use Rattle.bor_store_sql.specs.Shown.{IsClean, ShowsLists}

-- ---- fitting statements

-- the statement at this place of the agent's filing with this number
abbrev pub standing : List ℕ → ℕ → ℕ → Statement → Placed
standing agent number place s =
    record { at = record { agent = agent; filing = number; place = place }; statement = s }

abbrev pub with_status : Option Status → Statement → Statement
with_status status s = record s { status = status }

-- A statement that is said fits one that is kept at a place: it has the same row, but for a status
-- that it leaves out, which any kept one fits, and the same rows of interests, which have no days,
-- and of identifiers.
pub record FitsAt (agent : List ℕ) (number place : ℕ) (said kept : Statement) : Type 0 where
  pub status : (said.status ≡ None) ⊎ (said.status ≡ kept.status)
  pub statement : statement_columns
      (bare (standing agent number place (with_status kept.status said)))
      ≡ statement_columns (bare (standing agent number place kept))
  pub interests : map interest_columns (interest_rows (standing agent number place said))
      ≡ map interest_columns (interest_rows (standing agent number place kept))
  pub identifiers : map identifier_columns (identifier_rows (standing agent number place said))
      ≡ map identifier_columns (identifier_rows (standing agent number place kept))

-- as many of these as of those, and each fits the one at its place; places are counted from a
-- number on
abbrev pub Pairwise : {A B : Type 0} → (ℕ → A → B → Type 0) → ℕ → List A → List B → Type 0
Pairwise P n [] [] = Unit {0}
Pairwise P n [] (y ∷ ys) = ⊥
Pairwise P n (x ∷ xs) [] = ⊥
Pairwise P n (x ∷ xs) (y ∷ ys) = P n x y × Pairwise P (n + 1) xs ys

-- the statements that are said fit those that are kept of the agent's filing with this number
abbrev pub Fit : List ℕ → ℕ → ℕ → List Statement → List Statement → Type 0
Fit agent number place said kept = Pairwise (FitsAt agent number) place said kept

-- the statements of the agent's filing with this number; none where it has no such filing
abbrev pub statements_kept : List ℕ → ℕ → Register → List Statement
statements_kept agent number r =
    flat_map (λ f. f.statements) (numbered number (filings_of agent r.members))

-- ---- answers

-- The tables, of either version, are asked whether something holds of the register. The answer is
-- whether it holds, or there is an error.
pub record TellsWhether (old new : State) (result : Result Bool Error)
    (Holds : Register → Type 0) : Type 0 where
  pub reads : ReadsOnly old new
  pub told : IsClean new → (r : Register) → ShowsLists r old → IfOk result (λ b. IsTrue b ↔ Holds r)

-- the same of a connection
abbrev pub TellsOf : {S : Type 0} → Ghosts S → Held S → Held S → Result Bool Error
    → (Register → Type 0) → Type 0
TellsOf g old new result Holds = TellsWhether (state g old) (state g new) result Holds

-- ---- row by row, for clauses of private functions alone

-- a statement's columns; where it says no status, with the one that the row has
abbrev pub columns_beside : Row → Option Status → Row → Row
columns_beside row None columns = slice_set columns 8 (bound_value (column row 8))
columns_beside row (Some status) columns = columns

-- the row is that of the statement, whatever status it has where the statement says none
abbrev pub IsRowOf : Row → Placed → Type 0
IsRowOf row p = row ≡ columns_beside row p.statement.status (statement_columns (bare p))

-- the tables have the lists of the statement, at its place
pub record HasListsOf (p : Placed) (ms : List Member) : Type 0 where
  pub interests : map interest_columns (interest_rows p)
      ≡ map interest_columns (interests_at p.at ms)
  pub identifiers : map identifier_columns (identifier_rows p)
      ≡ map identifier_columns (identifiers_at p.at ms)

-- the row is that of the statement at this place, and the tables have its lists
pub record IsKept (agent : List ℕ) (number : ℕ) (ms : List Member) (place : ℕ) (s : Statement)
    (found : Row) : Type 0 where
  pub row : IsRowOf found (standing agent number place s)
  pub lists : HasListsOf (standing agent number place s) ms
