use Rattle.std.proofs.Common.{sym, ◌∙◌}
use Rattle.bor_register.specs.Register.{filings_of, filing_keyed}
use Rattle.bor_register.specs.Publication.{line_of}
use Rattle.bor_desk.specs.Operations.Lodging.{lodge_step}
use Rattle.bor_desk.specs.Operations.Outcomes.{of_lodging}
use Rattle.bor_desk.proofs.OnOperations.Outcomes.{left_legal}
use Rattle.bor_desk.proofs.OnOperations.Keyed.{keyed_some}
use Rattle.bor_desk.proofs.OnOperations.Lodgings.{repeat_outcome}
use Rattle.bor_desk.proofs.OnOperations.Legality.{lodging-stays_legal}
use Rattle.bor_desk.proofs.operations.lodging.lodge.Goals as goal

pub returns-in-Some-clause-step : goal.returns-in-Some-clause-step
returns-in-Some-clause-step g c = λ r is clean2.
    let clean1 = c.repeat.ensures.kept.began clean2 in
    let is1 = (c.in_ok-line.ensures.kept.same clean1 r).0 is in
    let is2 = (c.repeat.ensures.kept.same clean2 r).0 is1 in
    let told = sym c.in-Some.is ∙ c.in_ok-line.ensures.answer r is clean1 in
    let found = keyed_some (line_of r.day) (filing_keyed c.args.key.now (filings_of c.args.agent.now r.members)) c.in-Some.line told in
    repeat_outcome c.repeat.result (g.K.Keep.meaning.shows c.repeat.new.keep) r c.args.agent.now c.args.key.now c.args.due c.args.bytes.now found.0 found.1 (c.repeat.ensures.answer r is1 clean2 found.0 found.1 found.2) is2

pub returns-in-None-clause-legal : goal.returns-in-None-clause-legal
returns-in-None-clause-legal g c = λ r is clean2 legal.
    let clean1 = c.lodge_new.ensures.leaves.began clean2 in
    let is1 = (c.in_ok-line.ensures.kept.same clean1 r).0 is in
    let step = lodge_step r c.args.agent.now c.args.key.now c.args.due c.args.bytes.now in
    left_legal of_lodging c.lodge_new.result (g.K.Keep.meaning.shows c.lodge_new.new.keep) r step (c.lodge_new.ensures.step r is1 clean2) legal
    (lodging-stays_legal r c.args.agent.now c.args.key.now c.args.due c.args.bytes.now legal)
