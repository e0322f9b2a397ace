use Rattle.std.proofs.Common.{rules}
use Rattle.bor_store_sql.proofs.OnRows.Whole.{is_whole, share_from, share_long}
use Rattle.bor_store_sql.proofs.rows.reader.InterestLineTableRow.read.Goals as goal

pub returns-clause-exact : goal.returns-clause-exact
returns-clause-exact c = search (rules, share_long, is_whole, share_from)
