use Rattle.std.proofs.Common.{arith}
use Rattle.bor_wire.specs.Sent.{bytes_sent}
use Rattle.bor_http.proofs.OnIncoming.SendLemmas.{appends_more, to_end_length}
use Rattle.bor_program.proofs.connections.writing.Writing.write.Goals as goal

pub returns-in-Ok-clause-held : goal.returns-in-Ok-clause-held
returns-in-Ok-clause-held g c =
    let w = c.requires in
    let bytes = bytes_sent c.args.self.now.reply in
    let more = rw c.bytes.ensures at c.in-Ok.ensures.bytes in
    let few = rw c.bytes.ensures at c.in-Ok.ensures.bound in
    record {
      read = w.read;
      came = w.came;
      fits = w.fits;
      ready = w.ready;
      within = omega (arith, w.within, few, to_end_length bytes c.args.self.now.sent);
      written = appends_more _ _ _ bytes c.args.self.now.sent c.in-Ok.count w.written more;
    }
