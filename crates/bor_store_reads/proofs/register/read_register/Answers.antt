use Rattle.bor_store_reads.proofs.Reading.{read_never, read_so}
use Rattle.bor_store_sql.specs.Rows.Placed.{register_row}
use Rattle.std.proofs.lemmas.Option.{none-some, same_Some}
use Rattle.std.proofs.Common.{sym, ◌∙◌}
use Rattle.bor_store_reads.proofs.register.read_register.Goals as goal

pub returns-in-Some-clause-reads : goal.returns-in-Some-clause-reads
returns-in-Some-clause-reads g c = read_so c.in_ok-row.ensures.reads (λ r stored is. same_Some c.in-Some.row (register_row r) (sym c.in-Some.is ∙ is))

pub returns-in-None-clause-reads : goal.returns-in-None-clause-reads
returns-in-None-clause-reads g c = read_never c.in_ok-row.ensures.reads (λ r stored is. none-some (register_row r) (sym c.in-None.is ∙ is))
