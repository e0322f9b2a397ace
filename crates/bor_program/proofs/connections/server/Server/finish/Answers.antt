use Rattle.std.proofs.Common.{arith, subst}
use Rattle.bor_program.specs.Connections.Servers.{Lets, pending_in, telling_in}
use Rattle.bor_program.specs.Connections.Streams.{wire_of}
use Rattle.bor_program.proofs.OnConnections.Servers.{lets_then}
use Rattle.bor_program.proofs.connections.server.Server.finish.Goals as goal

pub returns-clause-lets : goal.returns-clause-lets
returns-clause-lets g c =
    let old = c.args.self.now in
    let mid = c.give_up_all.new.self in
    subst (λ n. Lets (wire_of g.S.Read.remaining g.S.Write.contents) (telling_in old) (pending_in old) n old.status c.leave_out.new.self) (omega (arith, c.give_up_all.ensures.left))
    (lets_then _ (telling_in old) (pending_in old) 0 mid.left old.status mid c.leave_out.new.self c.give_up_all.ensures.lets c.leave_out.ensures.lets)
