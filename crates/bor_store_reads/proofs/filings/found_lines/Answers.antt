use Rattle.bor_store_reads.proofs.FoundFilings.{filings_told}
use Rattle.bor_store_reads.proofs.filings.found_lines.Goals as goal

pub returns : goal.returns
returns g c = filings_told c.as_str.ensures.value c.as_str.ensures.form c.filings_of_agent.ensures c.all_values.ensures.values c.all_values.ensures.found
