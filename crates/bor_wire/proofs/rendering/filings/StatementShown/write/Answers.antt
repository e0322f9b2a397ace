use Rattle.bor_wire.proofs.OnRendering.Writing.{added, ended, wrote}
use Rattle.bor_wire.proofs.rendering.filings.StatementShown.write.Goals as goal

pub returns : goal.returns
returns c =
    rw (
      c.as_str.ensures.value,
      c.as_str-2.ensures.value,
      c.as_str-3.ensures.value,
      c.as_str-4.ensures,
      c.settled_word.ensures,
      c.record_type.ensures,
    ) at (
    wrote c.in_ok-begin_object.ensures (
    added c.in_ok-write_date.ensures (
    added c.in_ok-write_text.ensures (
    added c.in_ok-write_text-2.ensures (
    added c.in_ok-write_text-3.ensures (
    added c.in_ok-write_text-4.ensures (
    added c.in_ok-write_text-5.ensures (
    ended c.end_object.ensures))))))))
