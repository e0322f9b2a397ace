use Rattle.std.proofs.Common.{refl, sym, subst}
use Rattle.bor_program.specs.Connections.Servers.{AreSeated}
use Rattle.bor_program.proofs.OnConnections.Places.{seated_last}
use Rattle.bor_program.proofs.OnConnections.Servers.{stays}
use Rattle.bor_program.proofs.connections.server.Server.stay.Goals as goal

pub returns-in-Ok-clause-lets : goal.returns-in-Ok-clause-lets
returns-in-Ok-clause-lets g c =
    stays _ c.args.client c.args.self.now.queue.items c.args.self.now.left c.args.self.now.status _ c.in-Ok.ensures.items c.requires.held c.requires.client refl refl

pub returns-in-Ok-clause-seated : goal.returns-in-Ok-clause-seated
returns-in-Ok-clause-seated g c =
    let taken = c.args.self.now.seats.taken in
    subst (AreSeated taken) (sym c.in-Ok.ensures.items) (seated_last taken c.args.client c.args.self.now.queue.items c.requires.seated)
