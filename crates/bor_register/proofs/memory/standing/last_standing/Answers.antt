use Rattle.std.proofs.Common.{◌∙◌, true, arith, sym}
use Rattle.bor_register.specs.declared.memory.index.Place.{Place}
use Rattle.bor_register.specs.Memory.Sited.{passes, sited_at}
use Rattle.bor_register.proofs.OnMemory.Lists.{front_before, last_of_front}
use Rattle.bor_register.proofs.memory.standing.last_standing.Goals as goal

pub loop-next-preserved : goal.loop-next-preserved
loop-next-preserved c =
    let start : Place = record { filing = 0; statement = 0 } in
    let before = front_before (λ p. passes (λ x. true) (sited_at c.args.filings.now p)) c.args.places.now c.loop-next.next start (omega arith) (omega arith) (sym c.stands.ensures ∙ c.if-stands.false) in
    record { within = omega arith; left = c.loop-next.invariant.left ∙ before }

pub returns-then-stands : goal.returns-then-stands
returns-then-stands c =
    let start : Place = record { filing = 0; statement = 0 } in
    last_of_front (λ p. passes (λ x. true) (sited_at c.args.filings.now p)) c.args.places.now c.loop-next.next start (omega arith) (omega arith) (sym c.stands.ensures ∙ c.if-stands.true)
    ∙ sym c.loop-next.invariant.left
