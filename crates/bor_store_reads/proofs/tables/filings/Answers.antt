use Rattle.bor_store_sql.proofs.Finding.{finds_now}
use Rattle.bor_store_reads.proofs.FoundFilings.{all_filings_told}
use Rattle.bor_store_reads.proofs.tables.filings.Goals as goal

pub returns : goal.returns
returns g c = all_filings_told (finds_now c.all_filings.ensures) c.all_values.ensures.values c.all_values.ensures.found
