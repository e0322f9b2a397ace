use Rattle.std.proofs.Common.{Some, option_map, sym, ap, ◌∙◌}
use Rattle.bor_register.specs.Register.{filings_of}
use Rattle.bor_store_sql.specs.declared.rows.typed.FilingRow.{FilingRow}
use Rattle.bor_store_reads.proofs.FoundFilings.{own_numbered}
use Rattle.bor_store_reads.proofs.FoundStatements.{no_last, last_known, last_has_filing}
use Rattle.bor_store_reads.proofs.Reading.{read_never, read_next, read_so}
use Rattle.bor_store_reads.proofs.statements.read_last.Goals as goal

pub returns-in_default : goal.returns-in_default
returns-in_default g c =
    let agent = c.args.agent.now in
    read_so c.in_ok-row.ensures
    (λ r stored is. sym (no_last agent c.args.declaration.now c.args.rec.now (filings_of agent r.members) (own_numbered agent r.members stored.numbered) (sym is ∙ c.in_default.is)))

pub returns-in-Some-due_of : goal.returns-in-Some-due_of
returns-in-Some-due_of g c =
    let agent = c.args.agent.now in
    read_so (read_next c.in_ok-row.ensures c.in_ok-found_filing.ensures)
    (λ r stored is.
    ap Some c.known.ensures
    ∙ last_known agent c.args.declaration.now c.args.rec.now (filings_of agent r.members) (own_numbered agent r.members stored.numbered) c.in-Some.row (sym c.in-Some.is ∙ is.0) c.in-Some-due_of.due (sym c.in-Some-due_of.is ∙ c.due_of.ensures ∙ ap (option_map (λ (f : FilingRow). f.due)) is.1))

pub returns : goal.returns
returns g c =
    let agent = c.args.agent.now in
    read_never (read_next c.in_ok-row.ensures c.in_ok-found_filing.ensures)
    (λ r stored is. last_has_filing agent c.args.declaration.now c.args.rec.now (filings_of agent r.members) (own_numbered agent r.members stored.numbered) c.in-Some.row (sym c.in-Some.is ∙ is.0) (sym c.in-None.is ∙ c.due_of.ensures ∙ ap (option_map (λ (f : FilingRow). f.due)) is.1))
