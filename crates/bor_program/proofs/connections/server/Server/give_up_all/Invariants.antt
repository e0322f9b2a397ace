use Rattle.std.proofs.Common.{◌≡◌, ◌-◌, length}
use Rattle.bor_program.specs.Connections.Servers.{Lets, pending_in, telling_in}
use Rattle.bor_program.specs.Connections.Streams.{wire_of}
use Rattle.bor_program.proofs.connections.server.Server.give_up_all.Given as goal

abbrev pub invariant-loop : goal.invariant-loop
invariant-loop g l = record {
  lets : Lets (wire_of g.S.Read.remaining g.S.Write.contents) (telling_in l.fn.self) (pending_in l.fn.self) 0 l.fn.self.status l.self;
  left : l.self.left ≡ l.fn.self.left;
  notes : l.self.service ≡ l.fn.self.service;
  count : length l.self.queue.items ≡ length l.fn.self.queue.items - l.counter;
}
