use Rattle.std.proofs.Common.{ap}
use Rattle.bor_store_sql.specs.declared.rows.typed.RegisterRow.{RegisterRow}
use Rattle.bor_store_reads.proofs.Reading.{read_next, read_so}
use Rattle.bor_store_reads.proofs.tables.whole.Goals as goal

pub returns-clause-reads : goal.returns-clause-reads
returns-clause-reads g c = read_so (read_next c.in_ok-row.ensures.reads c.in_ok-members.ensures)
    (λ r stored is. (ap (λ (row : RegisterRow). row.day) is.0, ap (λ (row : RegisterRow). row.registrar) is.0, is.1))

pub returns-clause-up : goal.returns-clause-up
returns-clause-up g c = λ clean. c.in_ok-members.ensures.up clean (c.in_ok-row.ensures.up (c.in_ok-members.ensures.reads.clean clean))
