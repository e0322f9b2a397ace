use Rattle.bor_wire.proofs.OnRendering.Writing.{wrote}
use Rattle.bor_wire.proofs.rendering.shown.write_text_or_null.Goals as goal

pub returns : goal.returns
returns g c =
    wrote c.in_ok-key.ensures (
    c.write_maybe.ensures)
