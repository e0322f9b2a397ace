use Rattle.bor_store_reads.proofs.FoundStatements.{lines_told, placed_formed}
use Rattle.bor_store_reads.proofs.tables.interest_lines.Goals as goal

pub returns : goal.returns
returns g c = lines_told _ placed_formed c.all_interests.ensures c.all_values.ensures.values c.all_values.ensures.found
