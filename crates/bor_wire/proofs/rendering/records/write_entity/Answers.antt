use Rattle.bor_wire.proofs.OnRendering.Writing.{added, ended, wrote}
use Rattle.bor_wire.proofs.rendering.records.write_entity.Goals as goal

pub returns : goal.returns
returns c =
    rw c.as_str.ensures at (
    wrote c.in_ok-begin_object.ensures (
    added c.in_ok-write_items.ensures (
    added c.in_ok-write_text.ensures (
    added c.in_ok-write_text_or_null.ensures (
    ended c.end_object.ensures)))))
