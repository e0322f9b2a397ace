use Rattle.std.proofs.Common.{refl, ◌∙◌}
use Rattle.std.proofs.lemmas.Result.{err_from_is_err_and}
use Rattle.bor_desk.proofs.check.enrol_agent.Goals as goal

pub returns-clause-shown : goal.returns-clause-shown
returns-clause-shown c =
    c.in_ok-add_agent.ensures.made c.args.keep.now.register refl tt
    (record { new_name = rw c.requires refl; new_token = rw (c.requires, c.in_ok-token.ensures) refl })
    ∙ rw (c.requires, c.in_ok-agent.ensures, c.in_ok-token.ensures) refl

pub returns-in_err-add_agent-clause-err : goal.returns-in_err-add_agent-clause-err
returns-in_err-add_agent-clause-err c =
    let p = err_from_is_err_and c.from_residual-in_err-add_agent.result c.from_residual-in_err-add_agent.ensures.1 in
    rw (p.1, p.2)
    (c.in_err-add_agent.ensures.told c.args.keep.now.register refl tt
    (record { new_name = rw c.requires refl; new_token = rw (c.requires, c.in_ok-token.ensures) refl }))
