use Rattle.std.proofs.Common.{◌≡◌, ◌∙◌, Option, Some, ap, refl, sym}
use Rattle.bor_register.specs.Register.{Register}
use Rattle.bor_register.specs.Memory.Holding.{Holding}
use Rattle.bor_register.specs.Bare.{bare_register}
use Rattle.bor_register.proofs.BareReads.{caller-bare}
use Rattle.bor_desk.proofs.OnMirror.Mirroring.{by_mirror, by_store, register_in}
use Rattle.bor_desk.proofs.mirror.mirrored_keep.MirroredKeepKeep.who.Goals as goal
use Rattle.bor_desk.proofs.mirror.mirrored_keep.MirroredKeepKeep.who.Goals.{then-self+in-Some+in_default-who, then-self+in_default, else-self}

pub returns-in-Ok-clause-reads : goal.returns-in-Ok-clause-reads
returns-in-Ok-clause-reads g c =
    by_mirror g.K.Keep.meaning
    c.args.self.now c.self.inside.store c.in-Some.mirror.register c.who.new.self.register
    (ap (λ (o : Option Holding). (c.self.inside.store, register_in o, c.self.inside.notice)) (sym c.in-Some.is) ∙ c.self.view_is)
    (sym ((c.who.ensures.reads.kept.same tt c.in-Some.mirror.register).0 refl))
    (λ r e. c.in-Ok.ensures.reads.answer (bare_register r) e tt ∙ caller-bare c.args.token.now r)

pub returns-clause-reads : goal.returns-clause-reads
returns-clause-reads g c =
    let mid = c.if-self.self-inside in
    let store : mid.store ≡ c.self.inside.store = elim c.if-self.branch [ then-self+in-Some+in_default-who w ↦ (λ i. (w.self-inside-is i).store) | then-self+in_default w ↦ (λ i. (w.self-inside-is i).store) | else-self w ↦ (λ i. (w.self-inside-is i).store) ] in
    let same : register_in c.self.inside.mirror ≡ register_in mid.mirror = elim c.if-self.branch [
      | then-self+in-Some+in_default-who w ↦
          (let one : c.self.inside.mirror ≡ Some w.in-Some.mirror = w.in-Some.is in
          let two : mid.mirror ≡ Some w.who.new.self = (λ i. (w.self-inside-is i).mirror) in
          let register : w.who.new.self.register ≡ w.in-Some.mirror.register = (w.who.ensures.reads.kept.same tt w.in-Some.mirror.register).0 refl in
          ap register_in one ∙ ap (λ (q : Register). Some q) (sym register) ∙ sym (ap register_in two))
      | then-self+in_default w ↦ (let one : mid.mirror ≡ c.self.inside.mirror = (λ i. (w.self-inside-is i).mirror) in ap register_in (sym one))
      | else-self w ↦ (let one : mid.mirror ≡ c.self.inside.mirror = (λ i. (w.self-inside-is i).mirror) in ap register_in (sym one))
    ] in
    by_store g.K.Keep.meaning
    c.args.self.now mid.store c.who-told.new.self (register_in c.self.inside.mirror) (register_in mid.mirror)
    (let both : (mid.store, register_in c.self.inside.mirror, c.self.inside.notice) ≡ (c.self.inside.store, register_in c.self.inside.mirror, c.self.inside.notice) = cc in both ∙ c.self.view_is) same c.who-told.ensures.reads
