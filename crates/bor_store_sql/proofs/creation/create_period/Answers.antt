use Rattle.std.proofs.Common.{refl}
use Rattle.bor_store_sql.specs.Texts.Tables.{period_table}
use Rattle.bor_store_sql.specs.declared.texts.tables.TheConstants.{PERIOD_TABLE}
use Rattle.bor_store_sql.proofs.Creating.{table_beside, period_made}
use Rattle.bor_store_sql.proofs.Moves.{moves_by}
use Rattle.bor_store_sql.proofs.OnTexts.TextsAlone.{period_table_text}
use Rattle.bor_store_sql.proofs.creation.create_period.Goals as goal

pub returns-clause-moves : goal.returns-clause-moves
returns-clause-moves g c = moves_by c.run.ensures.ran refl (λ old new count h t has. period_made old new count t has h)

pub returns-clause-adds : goal.returns-clause-adds
returns-clause-adds g c = moves_by c.run.ensures.ran refl (table_beside PERIOD_TABLE.now period_table period_table_text refl)
