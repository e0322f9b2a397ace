use Rattle.std.proofs.Common.{true, false}
use Rattle.std.proofs.lemmas.List.{get_or-replicate}
use Rattle.bor_program.proofs.connections.watch.Places.wake_all.Goals as goal

pub returns-clause-ready : goal.returns-clause-ready
returns-clause-ready c = λ place below. get_or-replicate 256 place true false below
