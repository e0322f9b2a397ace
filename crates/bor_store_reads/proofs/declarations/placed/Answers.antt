use Rattle.std.proofs.Common.{ap, ◌∙◌, flat_map}
use Rattle.bor_terms.specs.Texts.{is_same}
use Rattle.bor_register.specs.Register.{filings_of}
use Rattle.bor_store_sql.specs.declared.rows.typed.Placed.{Placed}
use Rattle.bor_store_sql.specs.declared.rows.typed.StatementRow.{StatementRow}
use Rattle.bor_store_sql.proofs.OnRows.Apart.{apart_by, apart_filter}
use Rattle.bor_store_sql.specs.Selected.{in_declaration, placed_of}
use Rattle.bor_store_reads.specs.Asking.{part_identifiers, part_interests}
use Rattle.bor_store_reads.proofs.Declared.{declared_identifiers, declared_interests}
use Rattle.bor_store_reads.proofs.FoundFilings.{own_numbered}
use Rattle.bor_store_reads.proofs.Reading.{read_as, read_next}
use Rattle.bor_store_reads.proofs.declarations.placed.Goals as goal

pub returns : goal.returns
returns g c =
    let agent = c.args.agent.now in
    let declaration = c.args.declaration.now in
    read_as (read_next c.in_ok-statements.ensures (read_next c.in_ok-interests.ensures c.with_identifiers.ensures))
    (λ r placed stored is.
    is.1.1 (in_declaration declaration (placed_of agent r))
    (apart_filter (λ (p : Placed). is_same p.statement.declaration declaration) (placed_of agent r) (apart_by agent 1 (filings_of agent r.members) (own_numbered agent r.members stored.numbered))) is.0
    (c.as_slice-2.ensures.value ∙ is.1.0 ∙ ap (flat_map (λ (row : StatementRow). part_interests row.part row.at r.members)) (c.as_slice.ensures.value ∙ is.0) ∙ declared_interests agent declaration r stored)
    (ap (flat_map (λ (row : StatementRow). part_identifiers row.part row.at r.members)) is.0 ∙ declared_identifiers agent declaration r stored))
