use Rattle.std.proofs.Common.{◌≡◌, ◌+◌, ap, refl, sym, subst}
use Rattle.bor_program.specs.Connections.Phases.{telling}
use Rattle.bor_program.specs.Connections.Servers.{AreHeld, pending_in, telling_in, telling_to}
use Rattle.bor_program.specs.Connections.Streams.{wire_of}
use Rattle.bor_program.proofs.OnConnections.Servers.{lets_one}
use Rattle.bor_program.proofs.connections.server.Server.give_up.Goals as goal

pub returns-clause-lets : goal.returns-clause-lets
returns-clause-lets g c =
    let old = c.args.self.now in
    let new = c.end.new.self in
    let same : new.queue ≡ old.queue = c.end.ensures.queue in
    let held : AreHeld (wire_of g.S.Read.remaining g.S.Write.contents) new.queue.items = subst (λ q. AreHeld (wire_of g.S.Read.remaining g.S.Write.contents) q.items) (sym same) c.requires.held in
    let told : telling_in new ≡ telling_in old = ap (λ q. telling_to q.items) same in
    let count : pending_in new + 1 ≡ pending_in old + 1 = rw (same, c.end.ensures.left) refl in
    lets_one _ (telling c.args.client.phase) (telling_in old) (pending_in old + 1) old.status c.gives_up-failed.result new
    held c.gives_up-failed.ensures told count c.end.ensures.status
