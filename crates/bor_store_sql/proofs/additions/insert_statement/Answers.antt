use Rattle.bor_store_sql.specs.Rows.Placed.{bare}
use Rattle.bor_store_sql.proofs.Changes.{statement_put, moves_by}
use Rattle.bor_store_sql.proofs.additions.insert_statement.Goals as goal

pub returns-clause-steps : goal.returns-clause-steps
returns-clause-steps g c = moves_by c.run.ensures.ran c.statement_values.ensures (statement_put (bare (record { at = c.args.at.now; statement = c.args.statement.now })))
