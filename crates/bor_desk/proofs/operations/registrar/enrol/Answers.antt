use Rattle.std.proofs.Common.{sym, ◌∙◌, refl}
use Rattle.bor_desk.proofs.OnOperations.Legality.{enrolment-stays_legal}
use Rattle.bor_desk.proofs.operations.registrar.enrol.Goals as goal

pub returns-clause-step : goal.returns-clause-step
returns-clause-step g c = λ r is clean3.
    let clean2 = c.in_ok-add_agent.ensures.leaves.began clean3 in
    let clean1 = c.in_ok-is_taken.ensures.kept.began clean2 in
    let is1 = (c.in_ok-has_agent.ensures.kept.same clean1 r).0 is in
    let is2 = (c.in_ok-is_taken.ensures.kept.same clean2 r).0 is1 in
    let free = sym (c.in_ok-has_agent.ensures.answer r is clean1) ∙ c.if-branch.false in
    let taken = sym (c.in_ok-is_taken.ensures.answer r is1 clean2) ∙ c.if-branch-2.false in
    rw (free, taken) (refl, c.in_ok-add_agent.ensures.changed r is2 clean3)

pub returns-clause-legal : goal.returns-clause-legal
returns-clause-legal g c = λ r is clean legal. (_, (returns-clause-step g c r is clean).1, enrolment-stays_legal r c.args.name c.args.token legal)
