-- Which statement may follow which: what refuses a statement of a record, and what its status is
-- settled as (this register's profile of BODS 0.4, recordStatus).
use Rattle.std.specs.Prelude.{ℕ, ℤ, int_lt, List, [], ◌∷◌, ◌++◌, Bool, true, false, not, ◌&&◌}
use Rattle.std.specs.Prelude.{Option, Some, None, is_some, is_none, option_map, unwrap_or, Result}
use Rattle.std.specs.Prelude.{Ok, Err, if◌then◌else◌}
use Rattle.std.specs.List.{filter, last_or}
use Rattle.bor_terms.specs.Texts.{is_same}
use Rattle.bods_read.specs.declared.statement.Statement.{Statement}
use Rattle.bods_read.specs.declared.statement.RecordType.{RecordType}
use Rattle.bods_read.specs.declared.statement.RecordType.TheVariants.{Entity, Person, Relationship}
use Rattle.bods_read.specs.declared.statement.Status.{Status}
use Rattle.bods_read.specs.declared.statement.Status.TheVariants.{New, Updated, Closed}
use Rattle.bods_read.specs.Words.{type_of}
use Rattle.bor_records.specs.declared.admission.Last.{Last}
use Rattle.bor_records.specs.declared.fault.RecordFault.{RecordFault}
use Rattle.bor_records.specs.declared.fault.RecordFault.TheVariants.{TypeChanged, RecordExists}
use Rattle.bor_records.specs.declared.fault.RecordFault.TheVariants.{RecordUnknown, RecordClosed}
use Rattle.bor_records.specs.declared.fault.RecordFault.TheVariants.{DateBack, DueBeforeRecord}

-- ---- the last live statement of a record

-- A live statement, its status settled, with its filing's due day.
pub record Live : Type 0 where
  pub statement : Statement
  pub due : ℤ

-- a statement of the record: a record of an agent is known by its declaration and its identifier
abbrev pub is_of : List ℕ → List ℕ → Statement → Bool
is_of declaration rec s = is_same s.declaration declaration && is_same s.rec rec

-- the settled status; a live statement gives one
abbrev pub stated_status : Statement → Status
stated_status s = unwrap_or s.status New

-- a live statement, as far as the rules ask
abbrev pub known_of : Live → Last
known_of l =
    record {
      kind = type_of l.statement.details;
      status = stated_status l.statement;
      day = l.statement.day;
      due = l.due;
    }

-- the last one of the record among an agent's live statements, as far as the rules ask, where there
-- is one
abbrev pub last_of : List ℕ → List ℕ → List Live → Option Last
last_of declaration rec live =
    option_map known_of (last_or None (filter (λ l. is_of declaration rec l.statement) live))

-- ---- the refusals of a statement

abbrev pub is_type : RecordType → RecordType → Bool
is_type Entity Entity = true
is_type Person Person = true
is_type Relationship Relationship = true
is_type kind other = false

abbrev pub is_closed : Status → Bool
is_closed Closed = true
is_closed status = false

-- the statement gives the status new
abbrev pub says_new : Option Status → Bool
says_new (Some New) = true
says_new status = false

-- the statement gives a status that a later statement of a record has
abbrev pub says_later : Option Status → Bool
says_later (Some Updated) = true
says_later (Some Closed) = true
says_later status = false

-- the record has a live statement, and its last one is such
abbrev pub has_last : (Last → Bool) → Option Last → Bool
has_last test None = false
has_last test (Some last) = test last

-- the refusal, where it holds
abbrev pub line : {F : Type 0} → Bool → F → List F
line holds fault = if holds then fault ∷ [] else []

-- all that refuses a statement due on a day, by what is known of its record's last live statement;
-- no line stops another
abbrev pub refusals : Option Last → Statement → ℤ → List RecordFault
refusals last s due =
    line (has_last (λ l. not (is_type l.kind (type_of s.details))) last) TypeChanged
    ++ line (says_new s.status && is_some last) RecordExists
    ++ line (says_later s.status && is_none last) RecordUnknown
    ++ line (has_last (λ l. is_closed l.status) last) RecordClosed
    ++ line (has_last (λ l. int_lt s.day l.day) last) DateBack
    ++ line (has_last (λ l. int_lt due l.due) last) DueBeforeRecord

-- ---- settled statuses

-- the status that the statement gives; one left out is new for the first statement of a record, and
-- updated for a later one
abbrev pub settled_status : Option Last → Option Status → Status
settled_status last (Some status) = status
settled_status None None = New
settled_status (Some last) None = Updated

-- the first of the refusals, or the value where nothing refuses it
abbrev pub unless_refused : {F X : Type 0} → List F → X → Result X F
unless_refused [] x = Ok x
unless_refused (fault ∷ faults) x = Err fault

-- the settled status, or the first refusal
abbrev pub admission : Option Last → Statement → ℤ → Result Status RecordFault
admission last s due = unless_refused (refusals last s due) (settled_status last s.status)

-- the settled status after an agent's live statements
abbrev pub admitted : List Live → Statement → ℤ → Result Status RecordFault
admitted live s due = admission (last_of s.declaration s.rec live) s due
