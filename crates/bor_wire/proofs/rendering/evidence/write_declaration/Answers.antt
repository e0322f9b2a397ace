use Rattle.bor_wire.proofs.OnRendering.Writing.{added}
use Rattle.bor_wire.proofs.rendering.evidence.write_declaration.Goals as goal

pub returns : goal.returns
returns c =
    rw (
      c.as_str.ensures.value,
      c.as_str-2.ensures.value,
    ) at (
    added c.in_ok-write_text.ensures (
    c.write_text-2.ensures))
