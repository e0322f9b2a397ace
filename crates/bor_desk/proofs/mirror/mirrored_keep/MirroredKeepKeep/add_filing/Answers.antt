use Rattle.std.proofs.Common.{[]}
use Rattle.bor_register.specs.Additions.{MayFile, with_filing}
use Rattle.bor_register.specs.Register.{Register}
use Rattle.bor_register.proofs.BareChanges.{filed-bare, may_file-bare}
use Rattle.bor_desk.proofs.OnMirror.Mirroring.{failed_both, follows, made_both, register_in}
use Rattle.bor_desk.proofs.mirror.mirrored_keep.MirroredKeepKeep.add_filing.Goals as goal

pub returns-in-Ok : goal.returns-in-Ok
returns-in-Ok g c =
    let Fits : Register → Type 0 = MayFile c.args.agent.now c.args.count c.args.key.now c.args.statements.now in
    let small : Register → Register = with_filing c.args.agent.now c.args.key.now c.args.due [] c.args.statements.now in
    let change : Register → Register = with_filing c.args.agent.now c.args.key.now c.args.due c.args.bytes.now c.args.statements.now in
    made_both g.K.Keep.meaning Fits change c.args.self.now c.self.inside.store c.add_filing.new.self (register_in c.self.inside.mirror) (register_in c.filed.new.held) c.self.view_is
    (follows c.self.inside.mirror c.filed.new.held Fits small change c.filed.ensures.followed (may_file-bare c.args.agent.now c.args.count c.args.key.now c.args.statements.now) (filed-bare c.args.agent.now c.args.key.now c.args.due c.args.bytes.now c.args.statements.now))
    c.in-Ok.ensures

pub returns-in-Err : goal.returns-in-Err
returns-in-Err g c =
    failed_both g.K.Keep.meaning
    (MayFile c.args.agent.now c.args.count c.args.key.now c.args.statements.now) (with_filing c.args.agent.now c.args.key.now c.args.due c.args.bytes.now c.args.statements.now)
    c.args.self.now c.self.inside.store c.add_filing.new.self (register_in c.self.inside.mirror) c.self.view_is c.in-Err.ensures
