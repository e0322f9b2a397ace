use Rattle.std.proofs.Common.{◌<◌, arith, length}
use Rattle.bor_http.specs.Incoming.Progress.{needs}
use Rattle.bor_http.proofs.OnIncoming.Gathered.{not_reached}
use Rattle.bor_program.proofs.connections.reading.Reading.look.Goals as goal

pub returns-else-is_whole-clause-held : goal.returns-else-is_whole-clause-held
returns-else-is_whole-clause-held g c = λ kept.
    let received = c.args.self.now.received.items in
    let known = rw c.deref.ensures.value at c.in-Ok.ensures.known in
    let whole = rw c.deref.ensures.value at c.in-Ok.ensures.whole in
    let less : length received < needs c.in-Ok.progress = not_reached (needs c.in-Ok.progress) (length received) c.len.result c.is_whole.result c.is_whole.ensures c.if-is_whole.false (omega (arith, c.len.ensures)) in
    record {
      came = c.requires.came;
      known = known;
      missing = less;
      partial = λ is. omega (arith, less, whole.1 is);
      fits = c.requires.fits;
    }
