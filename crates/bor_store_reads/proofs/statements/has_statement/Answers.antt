use Rattle.bor_store_reads.proofs.FoundStatements.{identified_told}
use Rattle.bor_store_reads.proofs.statements.has_statement.Goals as goal

pub returns : goal.returns
returns g c = identified_told c.as_str.ensures.value c.as_str-2.ensures.value c.statement_by_id.ensures c.any.ensures.any c.any.ensures.found
