use Rattle.bor_wire.proofs.OnRendering.Writing.{added, ended, wrote}
use Rattle.bor_wire.proofs.rendering.filings.AgentLineShown.write.Goals as goal

pub returns : goal.returns
returns c =
    rw c.as_str.ensures.value at (
    wrote c.in_ok-begin_object.ensures (
    added c.in_ok-write_text.ensures (
    wrote c.in_ok-key.ensures (
    wrote c.in_ok-u64.ensures (
    ended c.end_object.ensures)))))
