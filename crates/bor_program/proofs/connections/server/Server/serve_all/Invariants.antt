use Rattle.std.proofs.Common.{◌≡◌, ◌-◌, Some, drop, length, take}
use Rattle.std.specs.declared.time.Duration.{Duration}
use Rattle.bor_program.specs.Connections.Servers.{Advances, AllRemain, NamesNone, AreHeld, AreSeated, Waiting}
use Rattle.bor_program.specs.Connections.Streams.{wire_of}
use Rattle.bor_program.proofs.connections.server.Server.serve_all.Given as goal

abbrev pub invariant-loop : goal.invariant-loop
invariant-loop g l = record {
  held : AreHeld (wire_of g.S.Read.remaining g.S.Write.contents) l.self.queue.items;
  seated : AreSeated l.self.seats.taken l.self.queue.items;
  waits : Waiting l.now (drop l.counter l.fn.self.queue.items) l.initial.self l.self;
  named : NamesNone l.fn.self.places l.self.places;
  remain :
      (at : Duration) → l.now ≡ Some at
      → AllRemain at l.fn.self (take l.counter l.fn.self.queue.items) (drop (length l.fn.self.queue.items - l.counter) l.self.queue.items);
  advances : Advances g.K.Keep.meaning (wire_of g.S.Read.remaining g.S.Write.contents) l.fn.keep l.keep l.fn.self l.self;
}
