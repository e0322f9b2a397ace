use Rattle.bor_store.proofs.Stored.{first_tables}
use Rattle.bor_store.proofs.laws.first_tables_tell_one_legal.Goals as goal

pub returns : goal.returns
returns c = first_tables
