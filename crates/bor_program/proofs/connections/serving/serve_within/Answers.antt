use Rattle.std.proofs.Common.{subst, sym}
use Rattle.bor_program.specs.Connections.Servers.{AreHeld}
use Rattle.bor_program.specs.Connections.Serving.{IsServedOver}
use Rattle.bor_program.specs.Connections.Streams.{EndedOn, wire_of}
use Rattle.bor_program.proofs.OnConnections.Running.{served_over}
use Rattle.bor_program.proofs.OnConnections.Servers.{served_by_any, begun}
use Rattle.bor_program.proofs.OnConnections.Watching.{does_tells}
use Rattle.bor_program.proofs.connections.serving.serve_within.Goals as goal

pub finish-requires : goal.finish-requires
finish-requires g c = subst (λ q. AreHeld (wire_of g.L.Stream.Read.remaining g.L.Stream.Write.contents) q.items) (sym c.tell.ensures.becomes.queue) c.run.ensures.held

pub returns-clause-streams : goal.returns-clause-streams
returns-clause-streams g c =
    let first = begun g.K.Keep.meaning (wire_of g.L.Stream.Read.remaining g.L.Stream.Write.contents) c.args.keep.now c.args.connections c.new-server.result c.new-server.ensures.queue c.new-server.ensures.left c.new-server.ensures.status c.new-server.ensures.none in
    let over = served_over g.K.Keep.meaning g.W.Watch.does (wire_of g.L.Stream.Read.remaining g.L.Stream.Write.contents) (record { keep = c.args.keep.now; watch = c.args.watch.now; server = c.new-server.result })
    (record { keep = c.run.new.keep; watch = c.run.new.watch; server = c.run.new.server }) c.tell.new.watch c.args.connections c.tell.new.self c.finish.new.self
    first c.run.ensures c.tell.ensures.becomes (does_tells g.W.Watch.does c.run.new.watch c.tell.new.watch _ c.tell.ensures.told) c.tell.ensures.none c.finish.ensures.lets c.finish.ensures.notes c.finish.ensures.pending in
    subst (λ limits. IsServedOver g.K.Keep.meaning (EndedOn (wire_of g.L.Stream.Read.remaining g.L.Stream.Write.contents)) (record { does = g.W.Watch.does; begun = c.args.watch.now; ended = c.tell.new.watch }) limits c.args.keep.now c.run.new.keep c.args.connections c.finish.new.self.status)
    c.new-server.ensures.limits over

pub returns-clause-served : goal.returns-clause-served
returns-clause-served g c =
    let over = returns-clause-streams g c in
    served_by_any g.K.Keep.meaning (EndedOn (wire_of g.L.Stream.Read.remaining g.L.Stream.Write.contents)) c.args.keep.now c.run.new.keep c.args.connections _ over.served
