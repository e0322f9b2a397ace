use Rattle.bor_store_sql.proofs.OneFirst.{first_tables}
use Rattle.bor_store_sql.proofs.laws.first_tables_tell_all_but_days.Goals as goal

pub returns : goal.returns
returns c = first_tables
