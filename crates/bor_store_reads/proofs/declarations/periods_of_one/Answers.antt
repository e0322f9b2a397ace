use Rattle.bor_store_reads.proofs.FoundStatements.{periods_told, standing_formed}
use Rattle.bor_store_reads.proofs.declarations.periods_of_one.Goals as goal

pub returns : goal.returns
returns g c = periods_told _ (standing_formed c.args.at.now) c.periods_of_statement.ensures c.all_values.ensures.values c.all_values.ensures.found
