use Rattle.bor_store_sql.proofs.OneRegister.{one_register}
use Rattle.bor_store_sql.proofs.laws.tables_show_one_register.Goals as goal

pub returns : goal.returns
returns c = one_register
