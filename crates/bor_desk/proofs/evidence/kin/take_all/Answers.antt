use Rattle.std.proofs.Common.{[], arith}
use Rattle.bor_records.specs.Links.Signs.{sign_cmp}
use Rattle.bor_records.specs.Links.Values.{under}
use Rattle.bor_desk.proofs.OnEvidence.Kin.{taken_next}
use Rattle.bor_desk.proofs.evidence.kin.take_all.Goals as goal

pub loop-sign-preserved : goal.loop-sign-preserved
loop-sign-preserved c =
    taken_next c.args.signs.now c.loop-sign.sign-index c.sign-item.result (under sign_cmp c.args.signed.now) (under sign_cmp c.loop-sign.signed) (under sign_cmp c.take_signed.new.signed) [] c.loop-sign.taken.items c.take_signed.new.taken.items
    (omega arith) c.sign-item.is c.loop-sign.invariant c.in_ok-take_signed.ensures
