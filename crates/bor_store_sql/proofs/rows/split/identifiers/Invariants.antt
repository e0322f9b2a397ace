use Rattle.std.proofs.Common.{◌≡◌, map, take}
use Rattle.bor_store_sql.proofs.rows.split.identifiers.Given as goal

abbrev pub invariant-loop-row : goal.invariant-loop-row
invariant-loop-row l = l.identifiers.items ≡ map (λ row. row.identifier) (take l.row-index l.rows)
