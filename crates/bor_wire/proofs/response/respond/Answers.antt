use Rattle.bor_wire.proofs.response.respond.Goals as goal

pub returns-clause-answers : goal.returns-clause-answers
returns-clause-answers g c =
    let input = c.args.input.now in
    c.respond_to.ensures.answers input (c.spelled-asking.ensures.spells input c.message_in.ensures.reading)

pub returns-clause-agent : goal.returns-clause-agent
returns-clause-agent g c =
    let input = c.args.input.now in
    c.respond_to.ensures.agent input (c.spelled-asking.ensures.spells input c.message_in.ensures.reading)
