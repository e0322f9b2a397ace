use Rattle.std.proofs.Common.{rules}
use Rattle.bor_store_sql.proofs.Fits.{beside_none, beside_some}
use Rattle.bor_store_sql.proofs.fitting.is_statement.Goals as goal

pub returns : goal.returns
returns c = search (rules, beside_none, beside_some)
