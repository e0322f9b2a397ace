use Rattle.std.proofs.Common.{map, sym, ap₂, ◌∙◌, filter}
use Rattle.bor_register.specs.Register.{filings_of}
use Rattle.bor_store_sql.specs.Rows.Seen.{is_seen, row_placed}
use Rattle.bor_store_sql.proofs.OnRows.SeenPlaced.{rows_of-placed}
use Rattle.bor_store_reads.proofs.FoundFilings.{own_numbered}
use Rattle.bor_store_reads.proofs.Reading.{read_as, read_next}
use Rattle.bor_store_reads.proofs.declarations.read_rows_of.Goals as goal

pub returns : goal.returns
returns g c =
    read_as (read_next c.in_ok-day.ensures (read_next c.in_ok-statements.ensures c.seen.ensures))
    (λ r rows stored is.
    is.1.1 ∙ ap₂ (λ d ps. map row_placed (filter (is_seen c.args.viewer.now d c.args.agent.now (filings_of c.args.agent.now r.members)) ps)) is.0 is.1.0
    ∙ sym (rows_of-placed c.args.viewer.now r.day c.args.agent.now c.args.declaration.now 1 (filings_of c.args.agent.now r.members) (own_numbered c.args.agent.now r.members stored.numbered)))
