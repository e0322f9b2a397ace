use Rattle.bor_wire.proofs.OnRendering.Writing.{added}
use Rattle.bor_wire.proofs.rendering.records.write_labels.Goals as goal

pub returns : goal.returns
returns c =
    rw (
      c.as_str.ensures.value,
      c.as_str-2.ensures.value,
      c.as_str-3.ensures,
      c.as_str-4.ensures,
      c.record_type.ensures,
    ) at (
    added c.in_ok-write_text.ensures (
    added c.in_ok-write_text-2.ensures (
    added c.in_ok-write_text-3.ensures (
    c.write_text-4.ensures))))
