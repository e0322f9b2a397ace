use Rattle.std.proofs.Common.{◌∙◌, flat_map}
use Rattle.bor_store_sql.specs.Rows.Placed.{interest_rows, placed}
use Rattle.bor_store_sql.proofs.OnRows.Apart.{all_apart}
use Rattle.bor_store_sql.proofs.OnRows.Timings.{all_several}
use Rattle.bor_store_reads.proofs.Reading.{read_next, read_so}
use Rattle.bor_store_reads.proofs.tables.interests.Goals as goal

pub returns : goal.returns
returns g c = read_so (read_next c.in_ok-lines.ensures c.in_ok-periods.ensures)
    (λ r stored is. c.in_ok-with_periods.ensures (flat_map interest_rows (placed r.members)) (all_several (placed r.members) (all_apart r.members stored.ordered stored.numbered)) is.0 (c.as_slice.ensures.value ∙ is.1))
