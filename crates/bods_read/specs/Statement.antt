-- The lines about a statement, and the statement that an object gives (BODS 0.4).
use Rattle.std.specs.Prelude.{List, [], ◌∷◌, Option, Some, None, is_some, pos, if◌then◌else◌}
use Rattle.serde_json.specs.Data.{Data, null}
use Rattle.bods_read.specs.declared.fault.Field.TheVariants as fields
use Rattle.bods_read.specs.declared.fault.Fault.{Fault}
use Rattle.bods_read.specs.declared.fault.Fault.TheVariants.{Bad}
use Rattle.bods_read.specs.declared.statement.RecordType.{RecordType}
use Rattle.bods_read.specs.declared.statement.RecordType.TheVariants as types
use Rattle.bods_read.specs.declared.statement.Statement.{Statement}
use Rattle.bods_read.specs.Outcome.{table}
use Rattle.bods_read.specs.Member.{ident_in, day_in, type_in, status_in, object_in, required}
use Rattle.bods_read.specs.Member.{required_value, optional, optional_value}
use Rattle.bods_read.specs.Details.{details_lines, details_of}

-- the lines about the details, where there are details, and a type to read them by
abbrev pub further_lines : Option RecordType → Option Data → List Fault
further_lines None d = []
further_lines (Some kind) None = []
further_lines (Some kind) (Some d) = details_lines kind d

-- the lines about the members of a statement, in order (BODS 0.4; this register's profile)
unfoldable pub statement_object_lines : Data → List Fault
statement_object_lines d =
    table (required fields.StatementId ident_in d ∷ required fields.StatementDate day_in d
    ∷ required fields.DeclarationSubject ident_in d ∷ required fields.RecordId ident_in d
    ∷ required fields.RecordType type_in d ∷ optional fields.RecordStatus status_in d
    ∷ required fields.RecordDetails object_in d
    ∷ further_lines (optional_value fields.RecordType type_in d)
    (optional_value fields.RecordDetails object_in d)
    ∷ [])

-- a statement is an object
unfoldable pub statement_lines : Data → List Fault
statement_lines d =
    if is_some (object_in d) then statement_object_lines d else Bad fields.Statement ∷ []

-- the statement that an object gives, member by member; where a fault stands, anything does
unfoldable pub statement_of : Data → Statement
statement_of d = record {
  id = required_value fields.StatementId ident_in [] d;
  day = required_value fields.StatementDate day_in (pos 0) d;
  declaration = required_value fields.DeclarationSubject ident_in [] d;
  rec = required_value fields.RecordId ident_in [] d;
  status = optional_value fields.RecordStatus status_in d;
  details = details_of (required_value fields.RecordType type_in types.Entity d)
      (required_value fields.RecordDetails object_in null d);
}
