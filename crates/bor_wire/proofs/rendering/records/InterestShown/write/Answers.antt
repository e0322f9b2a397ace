use Rattle.bor_wire.proofs.OnRendering.Writing.{added, ended, wrote}
use Rattle.bor_wire.proofs.rendering.records.InterestShown.write.Goals as goal

pub returns : goal.returns
returns c =
    rw (
      c.as_str.ensures,
      c.as_str-2.ensures,
    ) at (
    wrote c.in_ok-begin_object.ensures (
    added c.in_ok-write_text.ensures (
    wrote c.in_ok-key.ensures (
    added c.in_ok-write_share.ensures (
    added c.in_ok-write_text-2.ensures (
    ended c.end_object.ensures))))))
