use Rattle.std.proofs.Common.{None, ap, ◌∙◌}
use Rattle.std.specs.List.{last_or, list_any}
use Rattle.bor_register.specs.Register.{filings_of}
use Rattle.bor_store_sql.specs.declared.rows.typed.StatementRow.{StatementRow}
use Rattle.bor_store_sql.specs.Rows.Seen.{is_later}
use Rattle.bor_store_sql.specs.Selected.{in_series, placed_of}
use Rattle.bor_store_reads.proofs.FoundFilings.{own_numbered}
use Rattle.bor_store_reads.proofs.FoundStatements.{followed_is}
use Rattle.bor_store_reads.proofs.Reading.{read_as, read_next}
use Rattle.bor_store_reads.proofs.successors.has_successor.Goals as goal

pub returns : goal.returns
returns g c =
    let agent = c.args.agent.now in
    let number = c.args.number in
    read_as (read_next c.in_ok-rows.ensures c.any_followed.ensures)
    (λ r has stored is.
    is.1 ∙ ap (list_any (λ (row : StatementRow). is_later number (last_or None (in_series row.declaration row.rec (placed_of agent r))))) (c.as_slice.ensures.value ∙ is.0)
    ∙ followed_is agent number (filings_of agent r.members) (own_numbered agent r.members stored.numbered))
