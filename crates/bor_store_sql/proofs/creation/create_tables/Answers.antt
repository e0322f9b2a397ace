use Rattle.std.proofs.Common.{refl}
use Rattle.bor_store_sql.proofs.Creating.{all_add, all_lead}
use Rattle.bor_store_sql.proofs.Moves.{each_moves}
use Rattle.bor_store_sql.proofs.creation.create_tables.Goals as goal

pub returns-clause-leads : goal.returns-clause-leads
returns-clause-leads g c = each_moves c.run_each.ensures.ran refl all_lead

pub returns-clause-adds : goal.returns-clause-adds
returns-clause-adds g c = each_moves c.run_each.ensures.ran refl all_add
