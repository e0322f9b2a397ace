use Rattle.std.proofs.Common.{◌≡◌, ◌<◌}
use Rattle.bor_program.specs.Connections.Servers.{AreSeated, AsksWhoComes, HasRoom, IsSameElse, LetsIn}
use Rattle.bor_program.specs.Connections.Streams.{wire_of}
use Rattle.bor_program.proofs.connections.server.Server.let_in.Given as goal

abbrev pub invariant-loop : goal.invariant-loop
invariant-loop g l = record {
  lets : LetsIn (wire_of g.S.Read.remaining g.S.Write.contents) (record { does = g.W.Watch.does; begun = l.fn.watch; ended = l.watch }) l.fn.self l.self;
  rest : IsSameElse l.fn.self l.self;
  first : l.counter ≡ 0 → (l.self ≡ l.fn.self) × (l.watch ≡ l.fn.watch);
  asks : 0 < l.counter → HasRoom l.fn.self → AsksWhoComes (record { does = g.W.Watch.does; begun = l.fn.watch; ended = l.watch });
  seated : AreSeated l.self.seats.taken l.self.queue.items;
}
