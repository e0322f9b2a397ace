use Rattle.std.proofs.Common.{None, option_and_then, sym, ap, ◌∙◌, filter}
use Rattle.std.specs.List.{last_or}
use Rattle.bor_register.specs.Register.{filings_of}
use Rattle.bor_store_reads.proofs.Reading.{read_next, read_so}
use Rattle.bor_store_keys.specs.Latest.{is_row_seen, stored_unless_closed}
use Rattle.bor_store_keys.proofs.OpenAt.{opened}
use Rattle.bor_store_keys.proofs.latest.open_statement.Goals as goal

pub returns-in-Some : goal.returns-in-Some
returns-in-Some g c =
    let view = c.args.view.now in
    let n = c.args.node.now in
    read_so (read_next c.in_ok-rows.ensures c.in_ok-row.ensures)
    (λ r stored is. c.unless_closed.ensures
    ∙ ap (option_and_then stored_unless_closed) (sym c.in-Some.is ∙ is.1 ∙ ap (λ l. last_or None (filter (is_row_seen view n.agent (filings_of n.agent r.members)) l)) is.0)
    ∙ opened view n r stored)

pub returns-in-None : goal.returns-in-None
returns-in-None g c =
    let view = c.args.view.now in
    let n = c.args.node.now in
    read_so (read_next c.in_ok-rows.ensures c.in_ok-row.ensures)
    (λ r stored is. ap (option_and_then stored_unless_closed) (sym c.in-None.is ∙ is.1 ∙ ap (λ l. last_or None (filter (is_row_seen view n.agent (filings_of n.agent r.members)) l)) is.0)
    ∙ opened view n r stored)
