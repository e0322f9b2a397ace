use Rattle.std.proofs.Common.{◌≡◌, ◌∙◌, List, false, sym, subst}
use Rattle.std.specs.Prelude.{IfSome}
use Rattle.std.proofs.lemmas.Option.{IfSome_then}
use Rattle.bor_register.specs.declared.member.Member.{Member}
use Rattle.bor_register.specs.Memory.Indexed.{IsIndex}
use Rattle.bor_register.specs.Register.{IsOrdered, is_enrolled, new_member, with_member}
use Rattle.bor_register.proofs.Names.{ordered-with_member}
use Rattle.bor_register.proofs.OnMemory.Indexed.{index_enrolled}
use Rattle.bor_register.proofs.OnMemory.Told.{either_way}
use Rattle.bor_register.proofs.memory.list_keep.ListKeepKeep.add_agent.Goals as goal

pub invariant_of-self : goal.invariant_of-self
invariant_of-self c =
    let agent = c.args.agent.now in
    let before : List Member = c.self.inside.members.items in
    let fresh : is_enrolled agent before ≡ false =
    subst (λ (ms : List Member). is_enrolled agent ms ≡ false) c.deref.ensures.value (sym c.is_enrolled.ensures ∙ c.if-is_enrolled.false) in
    let Fits : List Member → Type 0 = λ ms. IsOrdered ms × IfSome c.self.inside.index (λ x. IsIndex ms x) in
    either_way c.enrol_member-made.result (c.enrol_member-made.new.members.items ≡ with_member (new_member agent c.args.token.now) before) (c.enrol_member-made.new.members.items ≡ before) (Fits c.enrol_member-made.new.members.items) c.enrol_member-made.ensures.ok c.enrol_member-made.ensures.err
    (λ is. subst Fits (sym is) (
      ordered-with_member (new_member agent c.args.token.now) before fresh c.self.invariant.0,
      IfSome_then c.self.inside.index c.self.invariant.1 (λ x h. index_enrolled before agent c.args.token.now x fresh h),
    ))
    (λ is. subst Fits (sym is) (c.self.invariant.0, c.self.invariant.1))
