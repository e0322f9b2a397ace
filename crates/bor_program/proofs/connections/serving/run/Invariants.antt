use Rattle.bor_program.specs.Connections.Streams.{wire_of}
use Rattle.bor_program.proofs.OnConnections.Running.{IsRunning}
use Rattle.bor_program.proofs.connections.serving.run.Given as goal

abbrev pub invariant-loop : goal.invariant-loop
invariant-loop g l =
    IsRunning g.K.Keep.meaning g.W.Watch.does (wire_of g.L.Stream.Read.remaining g.L.Stream.Write.contents) (record { keep = l.fn.keep; watch = l.fn.watch; server = l.fn.server })
    (record { keep = l.keep; watch = l.watch; server = l.server }) l.faults l.counter
