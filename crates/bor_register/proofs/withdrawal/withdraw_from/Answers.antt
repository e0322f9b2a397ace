use Rattle.std.proofs.Common.{◌<◌, length, ◌∙◌, ap, set}
use Rattle.std.proofs.lemmas.List.{get_or_default}
use Rattle.bor_register.specs.declared.filing.AcceptedFiling.{AcceptedFiling}
use Rattle.bor_register.specs.Withdrawal.{with_withdrawn}
use Rattle.bor_register.proofs.Places.{withdrawn_here}
use Rattle.bor_register.proofs.withdrawal.withdraw_from.Goals as goal

pub returns-then-as_slice-i : goal.returns-then-as_slice-i
returns-then-as_slice-i c =
    let inv = c.loop-i.invariant in
    let fs = c.loop-i.filings in
    let f = c.item_mut.result.now in
    let below : c.loop-i.i < length fs = rw (inv.same, ← c.as_slice-i-end.ensures) c.loop-i-test.true in
    let tested = rw c.as_slice.ensures at c.if-as_slice-i.true in
    let is = c.item_mut.ensures.value in
    let numbered = ap (λ (g : AcceptedFiling). g.number) (is ∙ get_or_default fs c.loop-i.i f c.index-as_slice-i.result below) ∙ tested in
    ap (set fs c.loop-i.i) c.withdraw.ensures ∙ withdrawn_here c.args.number fs c.loop-i.i f below is numbered inv.rest ∙ ap (with_withdrawn c.args.number) inv.same
