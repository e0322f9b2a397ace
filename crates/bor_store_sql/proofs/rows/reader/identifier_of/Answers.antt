use Rattle.std.proofs.Common.{refl}
use Rattle.bor_store_sql.proofs.OnRows.Lists.{not_read}
use Rattle.bor_store_sql.proofs.OnRows.Utf8.{free_utf8}
use Rattle.bor_store_sql.proofs.rows.reader.identifier_of.Goals as goal

pub returns-in_err-text_at-clause-reads : goal.returns-in_err-text_at-clause-reads
returns-in_err-text_at-clause-reads c i scheme id formed = not_read _ i c.from_residual.ensures.1 (c.in_err-text_at.ensures.reads i.scheme scheme (free_utf8 i.scheme formed.scheme) refl)

pub returns-in_err-text_at-2-clause-reads : goal.returns-in_err-text_at-2-clause-reads
returns-in_err-text_at-2-clause-reads c i scheme id formed = not_read _ i c.from_residual-in_err-text_at-2.ensures.1 (c.in_err-text_at-2.ensures.reads i.id id (free_utf8 i.id formed.id) refl)
