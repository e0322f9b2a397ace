use Rattle.std.proofs.Common.{ap, ◌∙◌, flat_map}
use Rattle.bor_store_sql.specs.declared.rows.typed.StatementRow.{StatementRow}
use Rattle.bor_store_reads.specs.Asking.{part_identifiers}
use Rattle.bor_store_reads.proofs.Reading.{read_so}
use Rattle.bor_store_reads.proofs.declarations.with_identifiers.Goals as goal

pub returns : goal.returns
returns g c =
    read_so c.in_ok-identifiers.ensures
    (λ r stored is ps apart bare interests identifiers.
    c.in_ok-joined.ensures ps apart bare interests
    (c.as_slice-2.ensures.value ∙ is ∙ ap (flat_map (λ (row : StatementRow). part_identifiers row.part row.at r.members)) c.as_slice.ensures.value ∙ identifiers))
