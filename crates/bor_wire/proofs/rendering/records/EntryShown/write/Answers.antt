use Rattle.bor_wire.proofs.OnRendering.Writing.{added, ended, wrote}
use Rattle.bor_wire.proofs.rendering.records.EntryShown.write.Goals as goal

pub returns : goal.returns
returns c =
    wrote c.in_ok-begin_object.ensures (
    added c.in_ok-write_date.ensures (
    wrote c.in_ok-key.ensures (
    added c.in_ok-write_details.ensures (
    added c.in_ok-write_labels.ensures (
    ended c.end_object.ensures)))))
