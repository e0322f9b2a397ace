use Rattle.std.proofs.Common.{arith, []}
use Rattle.bor_http.proofs.OnIncoming.ProgressLemmas.{nothing_is_partial}
use Rattle.bor_program.proofs.OnConnections.Streams.{came_new}
use Rattle.bor_program.proofs.connections.reading.Reading.new.Goals as goal

pub returns-clause-held : goal.returns-clause-held
returns-clause-held g c = rw c.new.ensures.items (record {
  came = came_new g.S.Read.remaining c.args.stream;
  known = c.none.ensures.known [];
  missing = omega (arith, c.none.ensures.needs);
  partial = nothing_is_partial;
  fits = omega arith;
})
