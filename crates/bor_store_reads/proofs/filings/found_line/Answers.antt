use Rattle.bor_store_reads.proofs.FoundFilings.{keyed_told}
use Rattle.bor_store_reads.proofs.filings.found_line.Goals as goal

pub returns : goal.returns
returns g c = keyed_told c.as_str.ensures.value c.as_str.ensures.form c.as_str-2.ensures.value c.line_by_key.ensures c.first_value.ensures.value c.first_value.ensures.found
