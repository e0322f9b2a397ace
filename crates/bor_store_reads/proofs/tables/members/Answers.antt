use Rattle.std.proofs.Common.{◌∙◌}
use Rattle.bor_store_reads.proofs.Reading.{read_next, read_so}
use Rattle.bor_store_reads.proofs.tables.members.Goals as goal

pub returns : goal.returns
returns g c = read_so (read_next c.in_ok-agents.ensures (read_next c.in_ok-filings.ensures c.in_ok-statements.ensures))
    (λ r stored is. c.in_ok-members_of.ensures r.members stored.ordered stored.numbered (c.as_slice.ensures.value ∙ is.0) (c.as_slice-2.ensures.value ∙ is.1.0) (c.as_slice-3.ensures.value ∙ is.1.1))
