use Rattle.std.proofs.Common.{◌∙◌, arith, sym}
use Rattle.bor_register.specs.declared.memory.index.Place.{Place}
use Rattle.bor_register.specs.Memory.Sited.{is_told, passes, sited_at}
use Rattle.bor_register.proofs.OnMemory.Lists.{front_before, last_of_front}
use Rattle.bor_register.proofs.memory.sight.last_told.Goals as goal

pub loop-next-preserved : goal.loop-next-preserved
loop-next-preserved c =
    let start : Place = record { filing = 0; statement = 0 } in
    let sight = c.args.sight.now in
    let before = front_before (λ p. passes (is_told sight.viewer.now sight.today sight.day c.args.agent.now) (sited_at c.args.filings.now p)) c.args.places.now c.loop-next.next start (omega arith) (omega arith)
    (sym c.is_told.ensures ∙ c.if-is_told.false) in
    record { within = omega arith; left = c.loop-next.invariant.left ∙ before }

pub returns-then-is_told : goal.returns-then-is_told
returns-then-is_told c =
    let start : Place = record { filing = 0; statement = 0 } in
    let sight = c.args.sight.now in
    last_of_front (λ p. passes (is_told sight.viewer.now sight.today sight.day c.args.agent.now) (sited_at c.args.filings.now p)) c.args.places.now c.loop-next.next start (omega arith) (omega arith)
    (sym c.is_told.ensures ∙ c.if-is_told.true)
    ∙ sym c.loop-next.invariant.left
