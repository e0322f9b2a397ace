use Rattle.std.proofs.Common.{◌≡◌, List, drop, map, All}
use Rattle.bor_store_sql.proofs.OnRows.Lists.{ToRead}
use Rattle.bor_store_sql.proofs.rows.reader.read_rows.Given as goal

-- the values that are left are those of the rows that are left
abbrev pub invariant-loop-row : goal.invariant-loop-row
invariant-loop-row g l = (xs : List _) → l.rows ≡ map g.T.TableRow.columns xs → All g.T.TableRow.is_formed xs → ToRead g.T.TableRow.columns g.T.TableRow.is_formed xs l.read.items (drop l.row-index l.rows)
