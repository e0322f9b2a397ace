use Rattle.std.proofs.Common.{◌∙◌}
use Rattle.bor_store_sql.specs.Rows.Placed.{placed}
use Rattle.bor_store_sql.proofs.OnRows.Apart.{all_apart}
use Rattle.bor_store_reads.proofs.Reading.{read_next, read_so}
use Rattle.bor_store_reads.proofs.tables.placed.Goals as goal

pub returns : goal.returns
returns g c = read_so (read_next c.in_ok-statements.ensures (read_next c.in_ok-interests.ensures c.in_ok-identifiers.ensures))
    (λ r stored is. c.in_ok-joined.ensures (placed r.members) (all_apart r.members stored.ordered stored.numbered) is.0 (c.as_slice.ensures.value ∙ is.1.0) (c.as_slice-2.ensures.value ∙ is.1.1))
