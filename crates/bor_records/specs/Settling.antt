-- A whole file's statements, settled one by one after an agent's live statements.
use Rattle.std.specs.Prelude.{ℕ, ◌+◌, ℤ, List, [], ◌∷◌, ◌++◌, map, Bool, Some, Result, Ok, Err}
use Rattle.std.specs.List.{list_any}
use Rattle.bor_terms.specs.Texts.{is_same}
use Rattle.bods_read.specs.declared.statement.Statement.{Statement}
use Rattle.bods_read.specs.declared.statement.Status.{Status}
use Rattle.bor_records.specs.declared.fault.RecordFault.{RecordFault}
use Rattle.bor_records.specs.Admission.{Live, last_of, line, refusals, settled_status}
use Rattle.bor_records.specs.Admission.{unless_refused}

-- why a statement of a file is refused
pub data Refusal : Type 0 where
  statement_twice : Refusal
  by_record : RecordFault → Refusal

-- The place of the statement that is refused, from 1, and why it is.
pub record PlacedRefusal : Type 0 where
  pub place : ℕ
  pub why : Refusal

-- whether one of the live statements has the identifier
abbrev pub has_id : List ℕ → List Live → Bool
has_id id live = list_any (λ l. is_same l.statement.id id) live

-- all that refuses a statement after these live ones: its identifier is taken, and then the rules
-- of its record
abbrev pub all_refusals : List Live → Statement → ℤ → List Refusal
all_refusals live s due =
    line (has_id s.id live) statement_twice
    ++ map by_record (refusals (last_of s.declaration s.rec live) s due)

-- its settled status, or the first refusal
abbrev pub verdict : List Live → Statement → ℤ → Result Status Refusal
verdict live s due =
    unless_refused (all_refusals live s due)
    (settled_status (last_of s.declaration s.rec live) s.status)

-- the statement with its status settled
abbrev pub as_settled : Status → Statement → Statement
as_settled status s = record s { status = Some status }

-- the settled statement, once it is live
abbrev pub as_live : ℤ → Statement → Live
as_live due s = record { statement = s; due = due }

-- a settled statement before what is made of those after it
abbrev pub ahead : Statement → Result (List Statement) PlacedRefusal
    → Result (List Statement) PlacedRefusal
ahead s (Ok ss) = Ok (s ∷ ss)
ahead s (Err refusal) = Err refusal

-- a settled statement and then the result of those after it, or the statement's refusal
abbrev pub settled_then : ℕ → Statement → Result Status Refusal
    → (Statement → Result (List Statement) PlacedRefusal) → Result (List Statement) PlacedRefusal
settled_then place s (Ok status) rest = ahead (as_settled status s) (rest (as_settled status s))
settled_then place s (Err why) rest = Err (record { place = place; why = why })

-- statements that begin at a place of their file, each after the live ones and the file's earlier
-- ones as settled
abbrev pub settled_from : ℕ → List Live → ℤ → List Statement → Result (List Statement) PlacedRefusal
settled_from place live due [] = Ok []
settled_from place live due (s ∷ ss) =
    settled_then place s (verdict live s due)
    (λ settled. settled_from (place + 1) (live ++ as_live due settled ∷ []) due ss)

-- the statements of a file with their statuses settled, or the first place that is refused
abbrev pub settled : List Live → ℤ → List Statement → Result (List Statement) PlacedRefusal
settled live due statements = settled_from 1 live due statements
