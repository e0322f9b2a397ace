use Rattle.std.proofs.Common.{◌≡◌, ◌++◌, ◌∷◌, [], ◌∙◌, List, true, length, arith, refl, ap, sym, subst}
use Rattle.bor_register.specs.declared.member.Member.{Member}
use Rattle.bor_register.specs.Memory.Holding.{Holding}
use Rattle.bor_register.specs.Memory.Indexed.{IsIndex}
use Rattle.bor_register.specs.Live.{accepted}
use Rattle.bor_register.specs.Register.{IsOrdered, filings_of, is_enrolled, with_filings}
use Rattle.bor_register.proofs.Members.{long-with_filings}
use Rattle.bor_register.proofs.Names.{ordered-with_filings}
use Rattle.bor_register.proofs.OnMemory.Lists.{written}
use Rattle.bor_register.proofs.memory.list_keep.ListKeepKeep.add_filing.Goals as goal

pub push_filing-requires-clause-enrolled : goal.push_filing-requires-clause-enrolled
push_filing-requires-clause-enrolled c =
    let same = c.deref_mut.ensures.value ∙ ap (λ (h : Holding). h.register.members) (c.self.view_is ∙ c.take_grown.ensures.kept) in
    rw same (c.has_room.ensures c.if-not-has_room.false).0

pub push_filing-requires-clause-room : goal.push_filing-requires-clause-room
push_filing-requires-clause-room c =
    let same = c.deref_mut.ensures.value ∙ ap (λ (h : Holding). h.register.members) (c.self.view_is ∙ c.take_grown.ensures.kept) in
    rw same (c.has_room.ensures c.if-not-has_room.false).1

pub invariant_of-self : goal.invariant_of-self
invariant_of-self c =
    let agent = c.args.agent.now in
    let before : List Member = c.args.self.now.register.members in
    let then : c.self.inside.members.items ≡ before = ap (λ (h : Holding). h.register.members) (c.self.view_is ∙ c.take_grown.ensures.kept) in
    let enrolled : is_enrolled agent before ≡ true = (c.has_room.ensures c.if-not-has_room.false).0 in
    let filing = accepted (filings_of agent before) c.args.key.now c.args.due c.args.bytes.now c.args.statements.now in
    let own = filings_of agent before ++ filing ∷ [] in
    let is : c.push_filing.new.members ≡ with_filings agent own before =
    c.in-Ok-push_filing.ensures.ok ∙ ap (λ (ms : List Member). with_filings agent (filings_of agent ms ++ accepted (filings_of agent ms) c.args.key.now c.args.due c.args.bytes.now c.args.statements.now ∷ []) ms) (c.deref_mut.ensures.value ∙ then) in
    let long : length c.self.inside.members.items ≡ c.self.inside.members.len = omega arith in
    let now = written c.push_filing.new.members c.self.inside.members.items c.self.inside.members.len
    (ap (λ (ms : List Member). length ms) is ∙ long-with_filings agent own before ∙ ap (λ (ms : List Member). length ms) (sym then) ∙ long) ∙ is in
    subst (λ (ms : List Member). IsOrdered ms × IsIndex ms c.in-Ok.index) (sym now)
    (ordered-with_filings agent own before (subst IsOrdered then c.self.invariant.0), c.in-Ok.ensures.grown filing refl enrolled)
