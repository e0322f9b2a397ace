use Rattle.std.proofs.Common.{◌≡◌, ◌≤◌, ◌-◌, length, take}
use Rattle.std.specs.Io.KnownBytes.{Appends}
use Rattle.bor_http.proofs.incoming.sending.send.Given as goal

abbrev pub invariant-send : goal.invariant-send
invariant-send g l = record {
  within : l.at ≤ length l.bytes;
  written : Appends (g.W.Write.contents l.initial.writer.inner) (g.W.Write.contents l.writer.inner) (take l.at l.bytes);
  faults : l.writer.faults ≡ l.initial.writer.faults;
}

abbrev pub decreases-send : goal.decreases-send
decreases-send g l = length l.bytes - l.at
