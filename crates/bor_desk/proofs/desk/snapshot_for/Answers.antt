use Rattle.std.proofs.Common.{◌∙◌}
use Rattle.bor_desk.proofs.SeenSnapshots.{snapshot-told}
use Rattle.bor_desk.proofs.desk.snapshot_for.Goals as goal

pub returns-clause-answer : goal.returns-clause-answer
returns-clause-answer g c = λ r is clean2 ordered.
    let clean1 = c.in_ok-rows.ensures.kept.began clean2 in
    let is1 = (c.in_ok-date.ensures.kept.same clean1 r).0 is in
    let day = c.in_ok-date.ensures.answer r is clean1 in
    let rows = c.in_ok-rows.ensures.answer r is1 clean2 in
    snapshot-told r c.args.viewer.now c.args.agent.now c.args.declaration.now c.args.date c.in_ok-date.date c.deref.result.now c.in_ok-snapshot.field-0.items c.new.result ordered day
    (c.deref.ensures.value ∙ rows) c.in_ok-snapshot.ensures c.new.ensures
