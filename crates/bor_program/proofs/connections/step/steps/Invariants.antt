use Rattle.std.proofs.Common.{◌≡◌, Option, false}
use Rattle.bor_program.specs.declared.connections.taking.Taking.{Taking}
use Rattle.bor_program.specs.Connections.Phases.{IsHeld, IsStep, ReadsOn, stand_at, telling}
use Rattle.bor_program.specs.Connections.Times.{IsBegun, IsIdleSince, IsTaking, moves_of, turns_of}
use Rattle.bor_program.specs.Connections.Streams.{wire_of}
use Rattle.bor_program.proofs.connections.step.steps.Given as goal

abbrev pub invariant-loop : goal.invariant-loop
invariant-loop g l = record {
  held : IsHeld (wire_of g.S.Read.remaining g.S.Write.contents) l.phase;
  step : IsStep g.K.Keep.meaning (wire_of g.S.Read.remaining g.S.Write.contents) (stand_at l.fn.keep (telling l.fn.phase) l.fn.service.notes.items) (stand_at l.keep (telling l.phase) l.service.notes.items);
  all : ReadsOn g.S.Read.remaining l.fn.phase l.phase;
  still : l.fn.timing.is_ready ≡ false → (l.counter ≡ 0) × (l.phase ≡ l.fn.phase) × (l.timing ≡ l.fn.timing);
  idle : IsIdleSince (moves_of l.fn.phase) (moves_of l.phase) l.fn.timing.idle_since l.now l.timing.idle_since;
  begun : IsBegun (turns_of l.fn.phase) (turns_of l.phase) l.fn.timing.since l.timing.since;
  time : (taking : Option Taking) → IsTaking taking l.fn.phase → IsTaking taking l.phase;
}
