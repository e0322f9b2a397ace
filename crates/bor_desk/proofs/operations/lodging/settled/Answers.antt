use Rattle.std.proofs.Common.{List, subst}
use Rattle.std.proofs.lemmas.Result.{err_from_is_err_and}
use Rattle.bods_read.specs.declared.statement.Statement.{Statement}
use Rattle.bods_read.specs.File.{reading}
use Rattle.bor_records.specs.Settling.{settled}
use Rattle.bor_register.specs.Register.{filings_of}
use Rattle.bor_register.specs.Live.{live_of}
use Rattle.bor_desk.specs.Operations.Lodging.{told_settled}
use Rattle.bor_desk.specs.Operations.Outcomes.{of_lodging, Refuses}
use Rattle.bor_desk.proofs.OnOperations.Lodgings.{refuses-unread, settled-read}
use Rattle.bor_desk.proofs.operations.lodging.settled.Goals as goal

pub returns-in_err-statements-clause-answer : goal.returns-in_err-statements-clause-answer
returns-in_err-statements-clause-answer g c = λ r is clean.
    let p = err_from_is_err_and c.from_residual.result c.from_residual.ensures.1 in
    rw (p.1, p.2) (refuses-unread c.in_err-statements.field-0.0 (live_of (filings_of c.args.agent.now r.members)) c.args.due (reading c.args.bytes.now) c.in_err-statements.ensures.read.done)

pub returns-in_err-settle-clause-answer : goal.returns-in_err-settle-clause-answer
returns-in_err-settle-clause-answer g c = λ r is clean.
    let p = err_from_is_err_and c.from_residual-in_err-settle.result c.from_residual-in_err-settle.ensures.1 in
    let e = c.in_err-settle.field-0.0 in
    let live = live_of (filings_of c.args.agent.now r.members) in
    let read = settled-read live c.args.due c.in_ok-statements.statements.items (reading c.args.bytes.now) c.in_ok-statements.ensures.read.done in
    let told = subst (λ (ss : List Statement). Refuses of_lodging e (told_settled (settled live c.args.due ss))) c.deref_mut.ensures.value (c.in_err-settle.ensures.answer r is clean) in
    rw (p.1, p.2, read) told
