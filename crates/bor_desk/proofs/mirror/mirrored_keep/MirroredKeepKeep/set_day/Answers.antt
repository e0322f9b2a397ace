use Rattle.std.proofs.Common.{refl}
use Rattle.bor_records.proofs.Sure.{changes_always, sure_changes}
use Rattle.bor_register.specs.Register.{Register}
use Rattle.bor_desk.specs.Mirror.Following.{mirrored}
use Rattle.bor_desk.proofs.OnMirror.Mirroring.{failed_both, follows, made_both, register_in}
use Rattle.bor_desk.proofs.mirror.mirrored_keep.MirroredKeepKeep.set_day.Goals as goal

pub returns-in-Ok : goal.returns-in-Ok
returns-in-Ok g c =
    let change : Register → Register = (λ r. record r { day = c.args.day }) in
    sure_changes (mirrored g.K.Keep.meaning)
    {Fits = λ r. Unit {0}} (λ r shown clean. tt)
    (made_both g.K.Keep.meaning (λ r. Unit {0}) change c.args.self.now c.self.inside.store c.set_day.new.self (register_in c.self.inside.mirror) (register_in c.dated.new.held) c.self.view_is
    (follows c.self.inside.mirror c.dated.new.held (λ r. Unit {0}) change change c.dated.ensures (λ r fits. tt) (λ r. refl))
    (changes_always g.K.Keep.meaning c.in-Ok.ensures))

pub returns-in-Err : goal.returns-in-Err
returns-in-Err g c =
    sure_changes (mirrored g.K.Keep.meaning)
    {Fits = λ r. Unit {0}} (λ r shown clean. tt)
    (failed_both g.K.Keep.meaning (λ r. Unit {0}) (λ r. record r { day = c.args.day })
    c.args.self.now c.self.inside.store c.set_day.new.self (register_in c.self.inside.mirror) c.self.view_is (changes_always g.K.Keep.meaning c.in-Err.ensures))
