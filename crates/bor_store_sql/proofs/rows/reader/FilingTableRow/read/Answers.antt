use Rattle.std.proofs.Common.{rules}
use Rattle.bor_store_sql.proofs.OnRows.Whole.{is_whole}
use Rattle.bor_store_sql.proofs.rows.reader.FilingTableRow.read.Goals as goal

pub returns-clause-exact : goal.returns-clause-exact
returns-clause-exact c = search (rules, is_whole)
