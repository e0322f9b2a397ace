use Rattle.bor_store_reads.proofs.FoundFilings.{shown_told}
use Rattle.bor_store_reads.proofs.filings.read_filing.Goals as goal

pub returns : goal.returns
returns g c = shown_told c.as_str.ensures.value c.as_str-2.ensures.value c.filing_by_key.ensures c.first_value.ensures.value c.first_value.ensures.found
