use Rattle.std.proofs.Common.{refl}
use Rattle.bor_store_reads.proofs.FoundStatements.{first_statement_told, standing_formed}
use Rattle.bor_store_reads.proofs.records.read_place.Goals as goal

pub returns : goal.returns
returns g c = first_statement_told _ (standing_formed c.args.at.now) c.statement_by_place.ensures (λ r. refl) c.first_value.ensures.value c.first_value.ensures.found
