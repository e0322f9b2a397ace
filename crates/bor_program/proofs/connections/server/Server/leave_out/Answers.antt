use Rattle.std.proofs.Common.{refl}
use Rattle.bor_program.specs.Connections.Servers.{telling_in}
use Rattle.bor_program.proofs.OnConnections.Servers.{lets_all_absent}
use Rattle.bor_program.proofs.connections.server.Server.leave_out.Goals as goal

pub returns-then-self-gt0-clause-lets : goal.returns-then-self-gt0-clause-lets
returns-then-self-gt0-clause-lets g c =
    lets_all_absent _ (telling_in c.args.self.now) c.args.self.now.left _ c.args.self.now.status _ c.requires c.if-self-gt0.true refl refl refl refl
