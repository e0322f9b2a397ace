use Rattle.std.proofs.Common.{refl}
use Rattle.bor_records.specs.Admission.{is_of}
use Rattle.bor_store_reads.proofs.FoundStatements.{own_told}
use Rattle.bor_store_reads.proofs.records.read_series.Goals as goal

pub returns : goal.returns
returns g c =
    own_told c.args.agent.now (λ p. is_of c.args.declaration.now c.args.rec.now p.statement) c.statements_of_series.ensures
    (λ r. rw (c.as_str.ensures.value, c.as_str-2.ensures.value, c.as_str-3.ensures.value) refl) c.all_values.ensures.values c.all_values.ensures.found
