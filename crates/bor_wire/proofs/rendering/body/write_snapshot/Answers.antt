use Rattle.bor_wire.proofs.OnRendering.Writing.{added, ended, wrote}
use Rattle.bor_wire.proofs.rendering.body.write_snapshot.Goals as goal

pub returns : goal.returns
returns c =
    wrote c.in_ok-begin_object.ensures (
    added c.in_ok-write_date.ensures (
    added c.in_ok-write_items.ensures (
    ended c.end_object.ensures)))
