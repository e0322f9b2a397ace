use Rattle.bor_store_reads.proofs.FoundFilings.{count_told}
use Rattle.bor_store_reads.proofs.filings.found_last.Goals as goal

pub returns : goal.returns
returns g c = count_told c.as_str.ensures.value c.as_str.ensures.form c.last_filing.ensures c.first_value.ensures.value c.first_value.ensures.found
