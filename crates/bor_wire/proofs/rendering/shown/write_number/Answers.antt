use Rattle.bor_wire.proofs.OnRendering.Writing.{ended, wrote}
use Rattle.bor_wire.proofs.rendering.shown.write_number.Goals as goal

pub returns : goal.returns
returns c =
    wrote c.in_ok-key.ensures (
    (ended c.u64.ensures))
