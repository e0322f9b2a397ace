use Rattle.std.proofs.Common.{arith, length, ap, length-append}
use Rattle.bor_http.proofs.OnIncoming.ProgressLemmas.{needs_within, progress_kept}
use Rattle.bor_program.proofs.OnConnections.Streams.{came_more}
use Rattle.bor_program.proofs.connections.reading.Reading.read.Goals as goal

pub make_room-requires : goal.make_room-requires
make_room-requires g c = omega (arith, c.wanted-wanted.ensures, c.len.ensures, c.requires.missing)

pub look-requires-clause-came : goal.look-requires-clause-came
look-requires-clause-came g c =
    let r = c.in-Ok-receive.ensures in
    rw (r.appended, c.in-Ok.ensures.items) (came_more g.S.Read.remaining c.args.self.now.stream c.receive.new.stream c.args.self.now.received.items r.bytes c.requires.came r.consumed)

pub look-requires-clause-known : goal.look-requires-clause-known
look-requires-clause-known g c =
    let r = c.in-Ok-receive.ensures in
    rw (r.appended, c.in-Ok.ensures.items) (progress_kept c.args.self.now.received.items r.bytes c.args.self.now.progress c.requires.known)

pub look-requires-clause-fits : goal.look-requires-clause-fits
look-requires-clause-fits g c =
    let r = c.in-Ok-receive.ensures in
    omega (
      arith,
      ap length r.appended,
      ap length c.in-Ok.ensures.items,
      length-append c.make_room.new.received.items r.bytes,
      r.count,
      r.within,
      c.in-Ok.ensures.within,
      c.wanted-wanted.ensures,
      c.len.ensures,
      c.requires.missing,
      needs_within c.args.self.now.received.items c.args.self.now.progress c.requires.known,
    )
