use Rattle.bor_wire.proofs.OnRendering.Writing.{added, ended, wrote}
use Rattle.bor_wire.proofs.rendering.records.write_relationship.Goals as goal

pub returns : goal.returns
returns c =
    wrote c.in_ok-begin_object.ensures (
    added c.in_ok-write_text_or_null.ensures (
    added c.in_ok-write_items.ensures (
    added c.in_ok-write_text_or_null-2.ensures (
    ended c.end_object.ensures))))
