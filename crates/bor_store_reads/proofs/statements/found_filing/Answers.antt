use Rattle.bor_store_reads.proofs.FoundFilings.{numbered_told}
use Rattle.bor_store_reads.proofs.statements.found_filing.Goals as goal

pub returns : goal.returns
returns g c = numbered_told c.as_str.ensures.value c.as_str.ensures.form c.args.number c.line_by_number.ensures c.first_value.ensures.value c.first_value.ensures.found
