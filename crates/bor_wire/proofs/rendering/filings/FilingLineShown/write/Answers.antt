use Rattle.bor_wire.proofs.OnRendering.Writing.{added, ended, wrote}
use Rattle.bor_wire.proofs.rendering.filings.FilingLineShown.write.Goals as goal

pub returns : goal.returns
returns c =
    rw (
      c.as_str.ensures.value,
      c.as_str-2.ensures,
      c.from.ensures,
    ) at (
    wrote c.in_ok-begin_object.ensures (
    added c.in_ok-write_date.ensures (
    added c.in_ok-write_number.ensures (
    added c.in_ok-write_text.ensures (
    added c.in_ok-write_text-2.ensures (
    ended c.end_object.ensures))))))
