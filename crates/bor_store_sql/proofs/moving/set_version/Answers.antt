use Rattle.bor_store_sql.specs.Rows.Encoding.{tables_version}
use Rattle.bor_store_sql.proofs.Changes.{version_updated, moves_by}
use Rattle.bor_store_sql.proofs.moving.set_version.Goals as goal

pub returns-clause-moves : goal.returns-clause-moves
returns-clause-moves g c = moves_by c.run.ensures.ran c.version_value.ensures (λ old new count h t one has. version_updated tables_version old new count t has one h)
