-- The records that statements are of.
use Rattle.std.specs.Prelude.{List, Contains}
use Rattle.bor_records.specs.declared.links.node.Node.{Node}
use Rattle.bor_records.specs.Links.Series.{stated}
use Rattle.bor_store_sql.specs.declared.rows.typed.Placed.{Placed}
use Rattle.bor_store_sql.specs.declared.rows.typed.StatementRow.{StatementRow}

-- the record that a statement is of
abbrev pub placed_record : Placed → Node
placed_record p = stated p.at.agent p.statement

-- the same, by the statement's row
abbrev pub record_at : StatementRow → Node
record_at row = record { agent = row.at.agent; declaration = row.declaration; rec = row.rec }

-- among the nodes are the records of all these statements
abbrev pub CoverRecords : List Placed → List Node → Type 0
CoverRecords ps nodes = (p : Placed) → Contains ps p → Contains nodes (placed_record p)
