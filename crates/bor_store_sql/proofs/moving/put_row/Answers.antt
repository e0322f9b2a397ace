use Rattle.bor_store_sql.proofs.Changes.{period_put, moves_by}
use Rattle.bor_store_sql.proofs.moving.put_row.Goals as goal

pub returns-clause-moves : goal.returns-clause-moves
returns-clause-moves g c = moves_by c.run.ensures.ran c.period_values.ensures (λ old new count h t has. period_put c.args.period.now old new count h t has (tt {0}))
