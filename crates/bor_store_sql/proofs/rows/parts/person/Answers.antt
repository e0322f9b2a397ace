use Rattle.bor_store_sql.specs.declared.rows.typed.Part.TheVariants.{Person}
use Rattle.bor_store_sql.proofs.OnRows.Lists.{not_read}
use Rattle.bor_store_sql.proofs.OnRows.Utf8.{free_if_any}
use Rattle.bor_store_sql.proofs.rows.parts.person.Goals as goal

pub returns-in_err-name-clause-reads : goal.returns-in_err-name-clause-reads
returns-in_err-name-clause-reads c kind name four formed = not_read _ (Person kind name) c.from_residual-in_err-name.ensures.1 (c.in_err-name.ensures.reads name four.1 (free_if_any name formed))
