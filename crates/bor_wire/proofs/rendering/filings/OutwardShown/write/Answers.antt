use Rattle.bor_wire.proofs.OnRendering.Writing.{added, ended, wrote}
use Rattle.bor_wire.proofs.rendering.filings.OutwardShown.write.Goals as goal

pub returns : goal.returns
returns c =
    rw (
      c.as_str.ensures.value,
      c.as_slice.ensures,
    ) at (
    wrote c.in_ok-begin_object.ensures (
    added c.in_ok-write_text.ensures (
    added c.in_ok-write_date.ensures (
    added c.in_ok-write_items.ensures (
    ended c.end_object.ensures)))))
