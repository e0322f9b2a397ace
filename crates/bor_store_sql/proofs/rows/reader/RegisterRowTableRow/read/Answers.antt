use Rattle.std.proofs.Common.{ap}
use Rattle.sqlite.specs.Order.{column}
use Rattle.bor_store_sql.proofs.OnRows.Lists.{not_read}
use Rattle.bor_store_sql.proofs.OnRows.Utf8.{token_utf8}
use Rattle.bor_store_sql.proofs.rows.reader.RegisterRowTableRow.read.Goals as goal

pub returns-in_err-text_at-clause-reads : goal.returns-in_err-text_at-clause-reads
returns-in_err-text_at-clause-reads c x is formed = not_read _ x c.from_residual-in_err-text_at.ensures.1 (c.in_err-text_at.ensures.reads x.registrar (ap (λ r. column r 3) is) (token_utf8 x.registrar formed.registrar) formed.registrar)
