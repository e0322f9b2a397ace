use Rattle.std.proofs.Common.{List, ap}
use Rattle.bor_records.proofs.Sure.{changes_always, sure_changes}
use Rattle.bor_register.specs.Additions.{with_withdrawal}
use Rattle.bor_register.specs.declared.member.Member.{Member}
use Rattle.bor_register.proofs.BareChanges.{withdrawn-bare}
use Rattle.bor_register.specs.Register.{Register}
use Rattle.bor_desk.specs.Mirror.Following.{mirrored}
use Rattle.bor_desk.proofs.OnMirror.Mirroring.{failed_both, follows, made_both, register_in}
use Rattle.bor_desk.proofs.mirror.mirrored_keep.MirroredKeepKeep.withdraw.Goals as goal

pub returns-in-Ok : goal.returns-in-Ok
returns-in-Ok g c =
    let change : Register → Register = (with_withdrawal c.args.agent.now c.args.number) in
    sure_changes (mirrored g.K.Keep.meaning)
    {Fits = λ r. Unit {0}} (λ r shown clean. tt)
    (made_both g.K.Keep.meaning (λ r. Unit {0}) change c.args.self.now c.self.inside.store c.withdraw.new.self (register_in c.self.inside.mirror) (register_in c.withdrawn.new.held) c.self.view_is
    (follows c.self.inside.mirror c.withdrawn.new.held (λ r. Unit {0}) change change c.withdrawn.ensures (λ r fits. tt) (λ r. ap (λ (ms : List Member). let q : Register = record r { members = ms } in q) (withdrawn-bare c.args.agent.now c.args.number r.members)))
    (changes_always g.K.Keep.meaning c.in-Ok.ensures))

pub returns-in-Err : goal.returns-in-Err
returns-in-Err g c =
    sure_changes (mirrored g.K.Keep.meaning)
    {Fits = λ r. Unit {0}} (λ r shown clean. tt)
    (failed_both g.K.Keep.meaning (λ r. Unit {0}) (with_withdrawal c.args.agent.now c.args.number)
    c.args.self.now c.self.inside.store c.withdraw.new.self (register_in c.self.inside.mirror) c.self.view_is (changes_always g.K.Keep.meaning c.in-Err.ensures))
