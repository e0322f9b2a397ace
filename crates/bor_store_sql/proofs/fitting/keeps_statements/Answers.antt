use Rattle.std.proofs.Common.{rules}
use Rattle.bor_store_sql.proofs.Fits.{rows_fit, told_after}
use Rattle.bor_store_sql.proofs.fitting.keeps_statements.Goals as goal

pub returns-clause-tells : goal.returns-clause-tells
returns-clause-tells g c = search (rules, told_after, rows_fit)
