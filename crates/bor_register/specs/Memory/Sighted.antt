-- The part of a register in memory that a viewer sees, read by key; for clauses of private
-- functions alone.
use Rattle.std.specs.Prelude.{List, Option, None, Some, option_map, if◌then◌else◌}
use Rattle.bods_read.specs.declared.details.Details.{Details}
use Rattle.bods_read.specs.declared.details.Details.TheVariants as details
use Rattle.bods_read.specs.declared.details.Identifier.{Identifier}
use Rattle.bods_read.specs.declared.statement.Statement.{Statement}
use Rattle.bor_records.specs.Admission.{is_closed, stated_status}
use Rattle.bor_records.specs.declared.links.node.Node.{Node}
use Rattle.bor_records.specs.declared.row.Row.{Row}
use Rattle.bor_records.specs.Links.Series.{open_at}
use Rattle.bor_records.specs.Links.Shown.{Shown}
use Rattle.bor_records.specs.Links.Relationships.{RowsOn, shown_on}
use Rattle.bor_register.specs.declared.memory.sight.Sight.{Sight}
use Rattle.bor_register.specs.Register.{IsOrdered}
use Rattle.bor_register.specs.Rows.{visible}
use Rattle.bor_register.specs.Memory.Indexed.{IsIndex}

-- The index is that of the members, who are in the order of their names.
pub record IsIndexed (x : Sight) : Type 0 where
  pub ordered : IsOrdered x.members.now
  pub index : IsIndex x.members.now x.index.now

-- the rows that the viewer sees
abbrev pub rows_in_sight : Sight → List Row
rows_in_sight x = visible x.viewer.now x.today x.members.now

-- as they stand on the day of the answer
abbrev pub rows_told : Sight → RowsOn
rows_told x = record { day = x.day; rows = rows_in_sight x }

-- their nodes and links
abbrev pub in_sight : Sight → Shown
in_sight x = shown_on (rows_told x)

-- the statement that a record shows: the latest that the viewer sees, where it isn't closed
abbrev pub statement_open : Sight → Node → Option Statement
statement_open x n = option_map (λ (r : Row). r.statement) (open_at x.day n (rows_in_sight x))

-- a statement that isn't closed
abbrev pub statement_unless_closed : Statement → Option Statement
statement_unless_closed s = if is_closed (stated_status s) then None else Some s

-- an entity's identifiers
abbrev pub identifiers_stated : Details → Option (List Identifier)
identifiers_stated (details.Entity kind name identifiers) = Some identifiers
identifiers_stated (details.Person kind name) = None
identifiers_stated (details.Relationship subject party interests) = None
