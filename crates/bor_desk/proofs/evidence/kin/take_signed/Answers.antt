use Rattle.std.proofs.Common.{None, Some, append-nil, sym, ◌∙◌}
use Rattle.bor_desk.proofs.OnEvidence.Kin.{taken_one}
use Rattle.bor_desk.proofs.evidence.kin.take_signed.Goals as goal

pub returns-in_default : goal.returns-in_default
returns-in_default c =
    taken_one c.args.signed.now c.remove.new.self c.args.sign.now None c.args.taken.now.items c.args.taken.now.items (sym c.in_default.is ∙ c.remove.ensures.value) c.remove.ensures.updates.0 (sym (append-nil c.args.taken.now.items))

pub returns : goal.returns
returns c =
    taken_one c.args.signed.now c.remove.new.self c.args.sign.now (Some c.in-Some.nodes) c.args.taken.now.items c.move_to.new.list.items (sym c.in-Some.is ∙ c.remove.ensures.value) c.remove.ensures.updates.0 c.in_ok-move_to.ensures
