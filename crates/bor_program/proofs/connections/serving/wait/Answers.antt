use Rattle.std.proofs.Common.{◌+◌, false, refl, true}
use Rattle.bor_program.proofs.OnConnections.Watching.{does_tells, waits_once}
use Rattle.bor_program.proofs.connections.serving.wait.Goals as goal

pub returns-in-Ok-clause-waits : goal.returns-in-Ok-clause-waits
returns-in-Ok-clause-waits g c =
    let once = c.in-Ok.ensures.does in
    waits_once g.W.Watch.does c.args.watch.now once.0 c.wait.new.watch c.args.server.now.wait false c.args.faults 0 _ (does_tells g.W.Watch.does c.args.watch.now once.0 _ once.1) once.2 refl

pub returns-in-Err-clause-waits : goal.returns-in-Err-clause-waits
returns-in-Err-clause-waits g c =
    let once = c.in-Err.ensures.does in
    waits_once g.W.Watch.does c.args.watch.now once.0 c.wait.new.watch c.args.server.now.wait true c.args.faults (c.args.faults + 1) _ (does_tells g.W.Watch.does c.args.watch.now once.0 _ once.1) once.2 refl
