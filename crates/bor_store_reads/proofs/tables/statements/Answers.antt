use Rattle.std.proofs.Common.{refl}
use Rattle.bor_store_reads.proofs.FoundStatements.{placed_formed, statements_told}
use Rattle.bor_store_reads.proofs.tables.statements.Goals as goal

pub returns : goal.returns
returns g c = statements_told _ placed_formed c.all_statements.ensures (λ r. refl) c.all_values.ensures.values c.all_values.ensures.found
