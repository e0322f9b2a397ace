-- The part of an agent's statements that a viewer sees, from their rows and those of their filings.
use Rattle.std.specs.Prelude.{ℕ, ℤ, int_le, List, Bool, not, ◌&&◌, ◌==◌, if◌then◌else◌, unwrap_or}
use Rattle.std.specs.Prelude.{Option, Some, None, nat_lt, false}
use Rattle.std.specs.List.{list_any}
use Rattle.bor_terms.specs.Texts.{is_same}
use Rattle.bods_read.specs.declared.statement.RecordType.{RecordType}
use Rattle.bods_read.specs.declared.statement.RecordType.TheVariants as types
use Rattle.bods_read.specs.declared.statement.Status.TheVariants.{New}
use Rattle.bor_records.specs.Admission.{is_of}
use Rattle.bor_records.specs.declared.admission.Last.{Last}
use Rattle.bor_records.specs.declared.row.Row.{Row}
use Rattle.bor_register.specs.Rows.{row_of, is_visible}
use Rattle.bor_register.specs.Publication.{state_of_live}
use Rattle.bor_register.specs.declared.filing.AcceptedFiling.{AcceptedFiling}
use Rattle.bor_register.specs.declared.filing.FilingLine.{FilingLine}
use Rattle.bor_register.specs.declared.filing.State.TheVariants.{Withdrawn}
use Rattle.bor_store_sql.specs.declared.rows.typed.FilingRow.{FilingRow}
use Rattle.bor_store_sql.specs.declared.rows.typed.Part.{Part}
use Rattle.bor_store_sql.specs.declared.rows.typed.Part.TheVariants as part
use Rattle.bor_store_sql.specs.declared.rows.typed.Placed.{Placed}
use Rattle.bor_store_sql.specs.declared.rows.typed.StatementRow.{StatementRow}

-- the filing of this row is published
abbrev pub is_line_published : ℤ → FilingRow → Bool
is_line_published day f = not f.withdrawn && int_le f.due day

-- the viewer sees the filing of this row: its own where it is live, another's where it is published
abbrev pub is_line_visible : List ℕ → ℤ → FilingRow → Bool
is_line_visible viewer day f =
    if is_same viewer f.agent then not f.withdrawn else is_line_published day f

-- the row of a statement where it stands
abbrev pub row_placed : Placed → Row
row_placed p = row_of p.at.agent p.at.filing p.at.place p.statement

-- the statement is of the declaration
abbrev pub is_of_declaration : List ℕ → Placed → Bool
is_of_declaration declaration p = is_same p.statement.declaration declaration

-- the viewer sees the filing, among these of the agent, that the statement is of
abbrev pub is_seen : List ℕ → ℤ → List ℕ → List AcceptedFiling → Placed → Bool
is_seen viewer day agent filings p =
    list_any (λ f. f.number == p.at.filing && is_visible viewer day agent f) filings

-- the line of the filing of this row, in its agent's list
abbrev pub line_shown : ℤ → FilingRow → FilingLine
line_shown day f =
    record {
      key = f.key;
      number = f.number;
      due = f.due;
      state = if f.withdrawn then Withdrawn
          else state_of_live f.due day;
    }

-- the kind of a statement's record, by its row
abbrev pub type_of_part : Part → RecordType
type_of_part (part.Entity kind name) = types.Entity
type_of_part (part.Person kind name) = types.Person
type_of_part (part.Relationship subject party) = types.Relationship

-- the statement of this row, whose filing is due on this day, as far as the rules ask
abbrev pub known_at : ℤ → StatementRow → Last
known_at due s =
    record { kind = type_of_part s.part; status = unwrap_or s.status New; day = s.day; due = due }

-- ---- for has_successor

-- a statement of the record of another one
abbrev pub is_of_record_of : Placed → Placed → Bool
is_of_record_of p q = is_of p.statement.declaration p.statement.rec q.statement

-- there is a statement, and it stands in a filing after the one with this number
abbrev pub is_later : ℕ → Option Placed → Bool
is_later number None = false
is_later number (Some p) = nat_lt number p.at.filing
