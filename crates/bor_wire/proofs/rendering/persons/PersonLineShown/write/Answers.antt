use Rattle.bor_wire.proofs.OnRendering.Writing.{added, ended, wrote}
use Rattle.bor_wire.proofs.rendering.persons.PersonLineShown.write.Goals as goal

pub returns : goal.returns
returns c =
    rw c.as_str.ensures.value at (
    wrote c.in_ok-begin_object.ensures (
    added c.in_ok-write_declaration.ensures (
    added c.in_ok-write_number.ensures (
    added c.in_ok-write_text_or_null.ensures (
    added c.in_ok-write_text.ensures (
    ended c.end_object.ensures))))))
