use Rattle.bor_desk.proofs.evidence.kin.Kin.add_open.Goals as goal

pub returns-clause-answer : goal.returns-clause-answer
returns-clause-answer g c = λ r is clean nodes of. c.in_ok-added.ensures _ nodes c.args.node.now of (c.in_ok-listed.ensures.answer r is clean)
