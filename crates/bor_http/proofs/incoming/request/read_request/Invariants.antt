use Rattle.std.proofs.Common.{◌≡◌, ◌≤◌, ◌-◌, ◌↔◌, false, length}
use Rattle.std.specs.Io.KnownBytes.{Consumes}
use Rattle.bor_http.specs.Incoming.Message.{request_limit}
use Rattle.bor_http.specs.Incoming.Progress.{IsProgress, IsWhole, needs}
use Rattle.bor_http.proofs.incoming.request.read_request.Given as goal

-- what has come was taken of the reader, and every read has given something
abbrev pub invariant-read : goal.invariant-read
invariant-read g l = record {
  consumed : Consumes (g.R.Read.remaining l.initial.reader.inner) (g.R.Read.remaining l.reader.inner) l.received.items;
  known : IsProgress l.received.items l.progress;
  whole : (needs l.progress ≤ length l.received.items) ↔ IsWhole l.received.items;
  fits : length l.received.items ≤ request_limit;
  faults : l.reader.faults ≡ l.initial.reader.faults;
  on : l.initial.reader.is_over ≡ false → l.reader.is_over ≡ false;
  late : l.initial.reader.is_over ≡ false → l.reader.late ≡ l.initial.reader.late;
}

abbrev pub decreases-read : goal.decreases-read
decreases-read g l = request_limit - length l.received.items
