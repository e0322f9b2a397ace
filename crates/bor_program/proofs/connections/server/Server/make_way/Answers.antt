use Rattle.std.proofs.Common.{◌<◌, arith, ap, length}
use Rattle.std.proofs.lemmas.List.Edits.{length-remove}
use Rattle.std.proofs.lemmas.List.Sums.{count_by-le-length}
use Rattle.bor_program.proofs.OnConnections.Places.{as_many}
use Rattle.bor_program.proofs.connections.server.Server.make_way.Goals as goal

pub returns-then-len-ge-PLACES-clause-free : goal.returns-then-len-ge-PLACES-clause-free
returns-then-len-ge-PLACES-clause-free g c =
    let old = c.args.self.now in
    let new = c.turn_out.new.self in
    let some : 0 < length old.queue.items = omega (arith, c.if-len-ge-PLACES.true, c.len.ensures, old.queue.ok.0) in
    let way = c.turn_out.ensures.way some in
    omega (
      arith,
      as_many old.seats.taken old.queue.items c.requires.seated,
      as_many new.seats.taken new.queue.items c.turn_out.ensures.seated,
      count_by-le-length (λ t. t) old.seats.taken,
      old.seats.all,
      ap length way.2,
      length-remove old.queue.items way.0 way.1.there,
    )

pub returns-else-len-ge-PLACES-clause-free : goal.returns-else-len-ge-PLACES-clause-free
returns-else-len-ge-PLACES-clause-free g c =
    let few : length c.args.self.now.queue.items < 256 = omega (arith, c.len.ensures, c.args.self.now.queue.ok.0) in
    omega (arith, few, as_many c.args.self.now.seats.taken c.args.self.now.queue.items c.requires.seated)
