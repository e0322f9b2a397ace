use Rattle.bor_store_reads.proofs.Reading.{read_so}
use Rattle.std.proofs.Common.{◌∙◌}
use Rattle.bor_store_reads.proofs.filings.filing_count.Goals as goal

pub returns : goal.returns
returns g c = read_so c.in_ok-last.ensures (λ r stored is. c.number_of.ensures ∙ is)
