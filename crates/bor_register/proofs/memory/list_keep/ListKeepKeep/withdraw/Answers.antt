use Rattle.std.proofs.Common.{◌≡◌, ◌∙◌, List, length, arith, ap, sym, subst}
use Rattle.std.specs.Prelude.{IfSome}
use Rattle.std.proofs.lemmas.Option.{IfSome_then}
use Rattle.bor_register.specs.declared.member.Member.{Member}
use Rattle.bor_register.specs.Memory.Indexed.{IsIndex}
use Rattle.bor_register.specs.Register.{IsOrdered, filings_of, with_filings}
use Rattle.bor_register.specs.Withdrawal.{with_withdrawn}
use Rattle.bor_register.proofs.Members.{long-with_filings}
use Rattle.bor_register.proofs.Names.{ordered-with_filings}
use Rattle.bor_register.proofs.OnMemory.Indexed.{index_withdrawn}
use Rattle.bor_register.proofs.OnMemory.Lists.{written}
use Rattle.bor_register.proofs.memory.list_keep.ListKeepKeep.withdraw.Goals as goal

pub invariant_of-self : goal.invariant_of-self
invariant_of-self c =
    let agent = c.args.agent.now in
    let before : List Member = c.self.inside.members.items in
    let own = with_withdrawn c.args.number (filings_of agent before) in
    let is : c.withdraw_of.new.members ≡ with_filings agent own before =
    c.withdraw_of.ensures ∙ ap (λ (ms : List Member). with_filings agent (with_withdrawn c.args.number (filings_of agent ms)) ms) c.deref_mut.ensures.value in
    let long : length before ≡ c.self.inside.members.len = omega arith in
    let now = written c.withdraw_of.new.members before c.self.inside.members.len (ap (λ (ms : List Member). length ms) is ∙ long-with_filings agent own before ∙ long) ∙ is in
    subst (λ (ms : List Member). IsOrdered ms × IfSome c.self.inside.index (λ x. IsIndex ms x)) (sym now)
    (ordered-with_filings agent own before c.self.invariant.0, IfSome_then c.self.inside.index c.self.invariant.1 (λ x h. index_withdrawn before agent c.args.number x h))
