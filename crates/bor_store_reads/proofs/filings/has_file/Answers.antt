use Rattle.bor_store_reads.proofs.FoundFilings.{file_told}
use Rattle.bor_store_reads.proofs.filings.has_file.Goals as goal

pub returns : goal.returns
returns g c = file_told c.as_str.ensures.value c.as_str-2.ensures.value c.args.bytes.now c.same_bytes.ensures c.flag.ensures.flag c.flag.ensures.found
