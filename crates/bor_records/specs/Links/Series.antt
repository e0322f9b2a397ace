-- A series: the statements of one record of an agent's declaration, and whether it is open on a
-- day.
use Rattle.std.specs.Prelude.{ℕ, ℤ, List, Bool, Option, option_and_then}
use Rattle.std.specs.List.{filter}
use Rattle.bods_read.specs.declared.statement.Statement.{Statement}
use Rattle.bor_records.specs.declared.row.Row.{Row}
use Rattle.bor_records.specs.Snapshot.{latest, unless_closed}
use Rattle.bor_records.specs.declared.links.node.Node.{Node}
use Rattle.bor_records.specs.Links.Nodes.{same_node}

-- the record that a statement of an agent is of
abbrev pub stated : List ℕ → Statement → Node
stated agent s = record { agent = agent; declaration = s.declaration; rec = s.rec }

-- the record that a row's statement is of
abbrev pub series_of : Row → Node
series_of r = stated r.agent r.statement

-- the row is of the series
abbrev pub is_of : Node → Row → Bool
is_of n r = same_node (series_of r) n

-- the rows of a series
abbrev pub series : Node → List Row → List Row
series n rows = filter (is_of n) rows

-- A series is open where it has a latest statement whose settled status isn't `closed`: that one.
abbrev pub open_at : ℤ → Node → List Row → Option Row
open_at day n rows = option_and_then unless_closed (latest day (series n rows))
