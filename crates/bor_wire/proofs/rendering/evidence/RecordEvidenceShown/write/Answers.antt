use Rattle.bor_wire.proofs.OnRendering.Writing.{added, ended, wrote}
use Rattle.bor_wire.proofs.rendering.evidence.RecordEvidenceShown.write.Goals as goal

pub returns : goal.returns
returns c =
    rw (
      c.as_str.ensures.value,
      c.as_str-2.ensures.value,
    ) at (
    wrote c.in_ok-begin_object.ensures (
    added c.in_ok-write_text.ensures (
    added c.in_ok-write_date.ensures (
    added c.in_ok-write_text-2.ensures (
    wrote c.in_ok-key.ensures (
    added c.in_ok-write_details.ensures (
    added c.in_ok-write_labels.ensures (
    ended c.end_object.ensures))))))))
