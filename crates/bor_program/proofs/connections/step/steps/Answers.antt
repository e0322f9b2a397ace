use Rattle.std.proofs.Common.{◌∙◌, ap, arith, false, refl, sym}
use Rattle.std.proofs.lemmas.Bool.{both_ways}
use Rattle.bor_program.specs.declared.connections.phase.Pace.TheVariants.{Blocked}
use Rattle.bor_program.specs.declared.connections.phase.Step.TheVariants.{Goes}
use Rattle.bor_program.specs.Connections.Phases.{stand_at, telling}
use Rattle.bor_program.proofs.OnConnections.Phases.{begun_on, idle_on, reads_same, reads_then, then_steps}
use Rattle.bor_program.proofs.connections.step.steps.Goals as goal

pub returns-in-Ends-clause-step : goal.returns-in-Ends-clause-step
returns-in-Ends-clause-step g c =
    then_steps _ _ (stand_at c.args.keep.now (telling c.args.phase) c.args.service.now.notes.items) (stand_at c.loop.keep (telling c.loop.phase) c.loop.service.notes.items)
    (stand_at c.step.new.keep (telling c.in-Ends.last) c.step.new.service.notes.items)
    c.loop.invariant.step c.in-Ends.ensures.step

pub returns-in-Ends-clause-time : goal.returns-in-Ends-clause-time
returns-in-Ends-clause-time g c = λ taking is. c.in-Ends.ensures.time taking (c.loop.invariant.time taking is)

pub loop-preserved : goal.loop-preserved
loop-preserved g c = record {
  held = c.in-Goes.ensures.held;
  step =
      then_steps _ _ (stand_at c.args.keep.now (telling c.args.phase) c.args.service.now.notes.items) (stand_at c.loop.keep (telling c.loop.phase) c.loop.service.notes.items)
      (stand_at c.step.new.keep (telling c.in-Goes.next) c.step.new.service.notes.items)
      c.loop.invariant.step c.in-Goes.ensures.step;
  all = reads_then g.S.Read.remaining c.args.phase c.loop.phase c.in-Goes.next c.loop.invariant.all c.in-Goes.ensures.all;
  still = λ is. absurd (both_ways c.loop.timing.is_ready (ap (λ t. t.is_ready) (c.loop.invariant.still is).2 ∙ is) (sym c.is_ready.ensures ∙ c.if-not-is_ready.false));
  idle = idle_on c.args.phase c.loop.phase c.in-Goes.next c.in-Goes.pace c.args.timing.now.idle_since c.loop.timing.idle_since _ c.args.now c.loop.invariant.idle c.in-Goes.ensures.pace c.pass.ensures.idle c.pass.ensures.busy;
  begun = begun_on c.args.phase c.loop.phase c.in-Goes.next c.in-Goes.pace c.args.timing.now.since c.loop.timing.since _ c.loop.invariant.begun c.in-Goes.ensures.turn c.pass.ensures.begins c.pass.ensures.begun;
  time = λ taking is. c.in-Goes.ensures.time taking (c.loop.invariant.time taking is);
}

pub loop-init : goal.loop-init
loop-init g c = record {
  held = c.requires;
  step = λ start others tally noted before. before;
  all = reads_same g.S.Read.remaining c.args.phase;
  still = λ is. (refl, refl, refl);
  idle = record { on = omega arith; idle = λ same. refl; busy = λ lt. absurd (omega (arith, lt)) };
  begun = record { on = omega arith; same = λ same. refl; turned = λ lt. absurd (omega (arith, lt)) };
  time = λ taking is. is;
}

pub returns-in-Ends-clause-all : goal.returns-in-Ends-clause-all
returns-in-Ends-clause-all g c = reads_then g.S.Read.remaining c.args.phase c.loop.phase c.in-Ends.last c.loop.invariant.all c.in-Ends.ensures.all

pub returns-then-not-is_ready-clause-still : goal.returns-then-not-is_ready-clause-still
returns-then-not-is_ready-clause-still g c = λ is.
    let same = c.loop.invariant.still is in
    (ap (λ p. Goes p Blocked) same.1, same.2)

pub returns-in-Ends-clause-still : goal.returns-in-Ends-clause-still
returns-in-Ends-clause-still g c = λ is.
    absurd (both_ways c.loop.timing.is_ready (ap (λ t. t.is_ready) (c.loop.invariant.still is).2 ∙ is) (sym c.is_ready.ensures ∙ c.if-not-is_ready.false))

pub returns-clause-still : goal.returns-clause-still
returns-clause-still g c = λ is. absurd (omega (arith, c.loop-test.false, (c.loop.invariant.still is).0))
