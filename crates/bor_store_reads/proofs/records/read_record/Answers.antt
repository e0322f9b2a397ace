use Rattle.std.proofs.Common.{refl}
use Rattle.bor_terms.specs.Texts.{is_same}
use Rattle.bor_store_reads.proofs.FoundStatements.{own_told}
use Rattle.bor_store_reads.proofs.records.read_record.Goals as goal

pub returns : goal.returns
returns g c = own_told c.args.agent.now (λ p. is_same p.statement.rec c.args.rec.now) c.statements_of_record.ensures (λ r. refl) c.all_values.ensures.values c.all_values.ensures.found
