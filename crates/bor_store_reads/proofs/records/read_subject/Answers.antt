use Rattle.std.proofs.Common.{◌&&◌, refl}
use Rattle.bor_terms.specs.Texts.{is_same}
use Rattle.bor_store_sql.specs.Selected.{names_subject}
use Rattle.bor_store_reads.proofs.FoundStatements.{own_told}
use Rattle.bor_store_reads.proofs.records.read_subject.Goals as goal

pub returns : goal.returns
returns g c =
    own_told c.args.agent.now (λ p. is_same p.statement.declaration c.args.declaration.now && names_subject c.args.rec.now p.statement.details) c.statements_of_subject.ensures
    (λ r. rw (c.as_str.ensures.value, c.as_str-2.ensures.value, c.as_str-3.ensures.value) refl) c.all_values.ensures.values c.all_values.ensures.found
