use Rattle.bor_store_reads.proofs.FoundStatements.{identifiers_told, placed_formed}
use Rattle.bor_store_reads.proofs.tables.identifiers.Goals as goal

pub returns : goal.returns
returns g c = identifiers_told _ placed_formed c.all_identifiers.ensures c.all_values.ensures.values c.all_values.ensures.found
