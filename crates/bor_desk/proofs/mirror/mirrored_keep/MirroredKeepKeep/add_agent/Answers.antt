use Rattle.bor_register.specs.Additions.{MayEnrol, with_agent}
use Rattle.bor_register.specs.Register.{Register}
use Rattle.bor_register.proofs.BareChanges.{enrolled_with-bare, may_enrol-bare}
use Rattle.bor_desk.proofs.OnMirror.Mirroring.{failed_both, follows, made_both, register_in}
use Rattle.bor_desk.proofs.mirror.mirrored_keep.MirroredKeepKeep.add_agent.Goals as goal

pub returns-in-Ok : goal.returns-in-Ok
returns-in-Ok g c =
    let Fits : Register → Type 0 = MayEnrol c.args.agent.now c.args.token.now in
    let change : Register → Register = with_agent c.args.agent.now c.args.token.now in
    made_both g.K.Keep.meaning Fits change c.args.self.now c.self.inside.store c.add_agent.new.self (register_in c.self.inside.mirror) (register_in c.enrolled.new.held) c.self.view_is
    (follows c.self.inside.mirror c.enrolled.new.held Fits change change c.enrolled.ensures (may_enrol-bare c.args.agent.now c.args.token.now) (enrolled_with-bare c.args.agent.now c.args.token.now))
    c.in-Ok.ensures

pub returns-in-Err : goal.returns-in-Err
returns-in-Err g c =
    failed_both g.K.Keep.meaning (MayEnrol c.args.agent.now c.args.token.now) (with_agent c.args.agent.now c.args.token.now)
    c.args.self.now c.self.inside.store c.add_agent.new.self (register_in c.self.inside.mirror) c.self.view_is c.in-Err.ensures
