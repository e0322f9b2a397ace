use Rattle.std.proofs.Common.{◌≡◌, ◌∙◌, List, length, arith, ap, sym, subst}
use Rattle.std.specs.Prelude.{IfSome}
use Rattle.std.proofs.lemmas.Option.{IfSome_then}
use Rattle.bor_register.specs.declared.member.Member.{Member}
use Rattle.bor_register.specs.Register.{IsOrdered, with_token}
use Rattle.bor_register.proofs.Members.{filings-with_token, long-with_token}
use Rattle.bor_register.proofs.Names.{ordered-with_token}
use Rattle.bor_register.specs.Memory.Indexed.{IsIndex}
use Rattle.bor_register.proofs.OnMemory.Indexed.{index_same}
use Rattle.bor_register.proofs.OnMemory.Lists.{written}
use Rattle.bor_register.proofs.OnMemory.Told.{either_way}
use Rattle.bor_register.proofs.memory.list_keep.ListKeepKeep.set_token.Goals as goal

pub invariant_of-self : goal.invariant_of-self
invariant_of-self c =
    let agent = c.args.agent.now in
    let token = c.args.token.now in
    let before : List Member = c.self.inside.members.items in
    let Fits : List Member → Type 0 = λ ms. IsOrdered ms × IfSome c.self.inside.index (λ x. IsIndex ms x) in
    let long : length before ≡ c.self.inside.members.len = omega arith in
    let there = c.deref_mut.ensures.value in
    either_way c.renew_token-made.result (c.renew_token-made.new.members ≡ with_token agent token c.deref_mut.result.now) (c.renew_token-made.new.members ≡ c.deref_mut.result.now) (Fits _) c.renew_token-made.ensures.ok c.renew_token-made.ensures.err
    (λ is. let made = is ∙ ap (λ (ms : List Member). with_token agent token ms) there in
    subst Fits (sym (written c.renew_token-made.new.members before c.self.inside.members.len (ap (λ (ms : List Member). length ms) made ∙ long-with_token agent token before ∙ long) ∙ made))
    (ordered-with_token agent token before c.self.invariant.0, IfSome_then c.self.inside.index c.self.invariant.1 (λ x h. index_same before (with_token agent token before) x (λ name. filings-with_token name agent token before) h)))
    (λ is. let made = is ∙ there in subst Fits (sym (written c.renew_token-made.new.members before c.self.inside.members.len (ap (λ (ms : List Member). length ms) made ∙ long) ∙ made)) c.self.invariant)
