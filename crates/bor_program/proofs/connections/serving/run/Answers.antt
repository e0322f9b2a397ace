use Rattle.std.proofs.Common.{◌∙◌, subst, sym}
use Rattle.bor_program.specs.Connections.Servers.{AreHeld, AreSeated}
use Rattle.bor_program.specs.Connections.Streams.{wire_of}
use Rattle.bor_program.proofs.OnConnections.Running.{ran_deaf, runs_on, starts}
use Rattle.bor_program.proofs.connections.serving.run.Goals as goal

pub returns-then-is_err : goal.returns-then-is_err
returns-then-is_err g c =
    ran_deaf g.K.Keep.meaning g.W.Watch.does _ c.args.keep.now c.args.watch.now c.watch_listener.new.self c.args.server.now _ c.requires.held c.watch_listener.ensures
    (sym c.is_err.ensures.value ∙ c.if-is_err.true)

pub loop-init : goal.loop-init
loop-init g c =
    starts g.K.Keep.meaning g.W.Watch.does _ c.args.keep.now c.args.watch.now c.watch_listener.new.self c.args.server.now _ c.requires.held c.requires.seated c.requires.wait c.watch_listener.ensures

pub let_in-requires-clause-held : goal.let_in-requires-clause-held
let_in-requires-clause-held g c = subst (λ q. AreHeld (wire_of g.L.Stream.Read.remaining g.L.Stream.Write.contents) q.items) (sym c.wait-faults.ensures.becomes.queue) c.loop.invariant.held

pub loop-preserved : goal.loop-preserved
loop-preserved g c =
    runs_on g.K.Keep.meaning g.W.Watch.does (wire_of g.L.Stream.Read.remaining g.L.Stream.Write.contents) _ (record { keep = c.loop.keep; watch = c.loop.watch; server = c.loop.server }) _ _ _ _ _ _ _ _ _
    c.loop.invariant c.wait-faults.ensures.becomes c.wait-faults.ensures.waits c.wait-faults.ensures.none c.let_in.ensures.lets c.let_in.ensures.rest c.serve_all.ensures.limits c.serve_all.ensures.patient c.serve_all.ensures.held c.serve_all.ensures.seated c.serve_all.ensures.advances

pub let_in-requires-clause-seated : goal.let_in-requires-clause-seated
let_in-requires-clause-seated g c =
    let waited = c.wait-faults.ensures in
    subst (λ q. AreSeated c.wait-faults.new.server.seats.taken q.items) (sym waited.becomes.queue) (subst (λ s. AreSeated s.taken c.loop.server.queue.items) (sym waited.seats) c.loop.invariant.seated)
