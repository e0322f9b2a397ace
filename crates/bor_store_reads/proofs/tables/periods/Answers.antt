use Rattle.bor_store_reads.proofs.FoundStatements.{periods_told, placed_formed}
use Rattle.bor_store_reads.proofs.tables.periods.Goals as goal

pub returns : goal.returns
returns g c = periods_told _ placed_formed c.all_periods.ensures c.all_values.ensures.values c.all_values.ensures.found
