use Rattle.bor_wire.proofs.OnRendering.Writing.{added, ended, wrote}
use Rattle.bor_wire.proofs.rendering.records.write_span.Goals as goal

pub returns : goal.returns
returns c =
    rw (
      c.from.ensures,
      c.from-2.ensures,
      c.high.ensures.value,
      c.high_is_open.ensures,
      c.low.ensures,
      c.low_is_open.ensures,
    ) at (
    wrote c.in_ok-begin_object.ensures (
    added c.in_ok-write_number.ensures (
    added c.in_ok-write_flag.ensures (
    added c.in_ok-write_number-2.ensures (
    added c.in_ok-write_flag-2.ensures (
    ended c.end_object.ensures))))))
