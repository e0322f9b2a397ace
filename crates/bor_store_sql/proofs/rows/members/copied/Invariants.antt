use Rattle.std.proofs.Common.{◌≡◌, map, take}
use Rattle.bor_store_sql.proofs.rows.members.copied.Given as goal

abbrev pub invariant-loop-placed : goal.invariant-loop-placed
invariant-loop-placed l = l.copied.items ≡ map (λ p. p.statement) (take l.placed-index l.statements)
