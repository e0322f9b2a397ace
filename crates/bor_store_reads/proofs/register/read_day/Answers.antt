use Rattle.bor_store_sql.specs.declared.rows.typed.RegisterRow.{RegisterRow}
use Rattle.bor_store_reads.proofs.Reading.{read_so}
use Rattle.std.proofs.Common.{ap}
use Rattle.bor_store_reads.proofs.register.read_day.Goals as goal

pub returns : goal.returns
returns g c = read_so c.in_ok-read_register.ensures.reads (λ r stored is. ap (λ (row : RegisterRow). row.day) is)
