use Rattle.bor_store_sql.proofs.Finding.{finds_now}
use Rattle.bor_store_reads.proofs.FoundStatements.{identifiers_told, standing_formed}
use Rattle.bor_store_reads.proofs.declarations.identifiers_of_one.Goals as goal

pub returns : goal.returns
returns g c = identifiers_told _ (standing_formed c.args.at.now) (finds_now c.identifiers_of_statement.ensures) c.all_values.ensures.values c.all_values.ensures.found
