use Rattle.bor_store_sql.proofs.Finding.{finds_now}
use Rattle.bor_store_reads.proofs.FoundStatements.{lines_told, standing_formed}
use Rattle.bor_store_reads.proofs.declarations.lines_of_one.Goals as goal

pub returns : goal.returns
returns g c = lines_told _ (standing_formed c.args.at.now) (finds_now c.interests_of_statement.ensures) c.all_values.ensures.values c.all_values.ensures.found
