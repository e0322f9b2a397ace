use Rattle.std.proofs.Common.{◌≡◌, ◌++◌, sym, ap, subst, ◌∙◌}
use Rattle.bor_records.specs.Admission.{admission, last_of}
use Rattle.bor_register.specs.Register.{filings_of}
use Rattle.bor_register.specs.Live.{live_of}
use Rattle.bor_desk.specs.declared.operations.earlier.RecordKey.{RecordKey}
use Rattle.bor_desk.proofs.OnOperations.Lodgings.{verdict-ok, verdict-err}
use Rattle.bor_desk.proofs.operations.lodging.settled_status.Goals as goal

pub returns-in-Ok-clause-answer : goal.returns-in-Ok-clause-answer
returns-in-Ok-clause-answer g c = λ r is clean live found.
    let clean1 = c.in_ok-last.ensures.kept.began clean in
    let free = c.in_ok-is_taken.ensures.answer r is clean1 live found in
    let is1 = (c.in_ok-is_taken.ensures.kept.same clean1 r).0 is in
    let s = c.args.statement.now in
    let in_file = subst (λ (k : RecordKey). c.last.result ≡ last_of k.declaration k.rec live) c.requires (c.last.ensures live found) in
    let known = c.in_ok-last.ensures.answer r is1 clean live in_file in
    verdict-ok c.args.place (live_of (filings_of c.args.agent.now r.members) ++ live) s c.args.due c.in-Ok.status
    (sym free ∙ c.if-branch.false) (ap (λ l. admission l s c.args.due) (sym known) ∙ sym c.in-Ok.ensures)

pub returns-in-Err-clause-answer : goal.returns-in-Err-clause-answer
returns-in-Err-clause-answer g c = λ r is clean live found.
    let clean1 = c.in_ok-last.ensures.kept.began clean in
    let free = c.in_ok-is_taken.ensures.answer r is clean1 live found in
    let is1 = (c.in_ok-is_taken.ensures.kept.same clean1 r).0 is in
    let s = c.args.statement.now in
    let in_file = subst (λ (k : RecordKey). c.last.result ≡ last_of k.declaration k.rec live) c.requires (c.last.ensures live found) in
    let known = c.in_ok-last.ensures.answer r is1 clean live in_file in
    verdict-err c.args.place (live_of (filings_of c.args.agent.now r.members) ++ live) s c.args.due c.in-Err.fault
    (sym free ∙ c.if-branch.false) (ap (λ l. admission l s c.args.due) (sym known) ∙ sym c.in-Err.ensures)
