use Rattle.std.proofs.Common.{◌∙◌, sym, ap}
use Rattle.bor_terms.specs.Texts.{is_same}
use Rattle.bor_register.specs.declared.member.Member.{Member}
use Rattle.bor_register.proofs.Places.{place_here}
use Rattle.bor_register.proofs.member.position.Goals as goal

pub returns-then-eq-clause-some : goal.returns-then-eq-clause-some
returns-then-eq-clause-some c =
    let inv = c.loop-i.invariant in
    let name = c.args.name.now in
    place_here name c.args.members.now c.loop-i.i c.index-members-i.result c.loop-i-test.true
    (ap (λ (m : Member). is_same m.name name) (sym c.index-members-i.is) ∙ sym c.eq.ensures ∙ c.if-eq.true) inv.enrolled inv.own inv.written inv.renewed
