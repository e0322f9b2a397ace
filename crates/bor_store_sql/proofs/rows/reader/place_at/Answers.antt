use Rattle.bor_store_sql.proofs.OnRows.Lists.{not_read}
use Rattle.bor_store_sql.proofs.OnRows.Utf8.{name_utf8}
use Rattle.bor_store_sql.proofs.rows.reader.place_at.Goals as goal

pub returns-in_err-text_at-clause-reads : goal.returns-in_err-text_at-clause-reads
returns-in_err-text_at-clause-reads c at agent filing place formed = not_read _ at c.from_residual-in_err-text_at.ensures.1 (c.in_err-text_at.ensures.reads at.agent agent (name_utf8 at.agent formed.agent) formed.agent)
