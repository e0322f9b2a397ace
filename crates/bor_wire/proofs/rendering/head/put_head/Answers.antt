use Rattle.std.proofs.Common.{append_assoc}
use Rattle.bor_wire.specs.Rendering.Heads.{head_bytes}
use Rattle.bor_wire.proofs.rendering.head.put_head.Goals as goal

pub returns : goal.returns
unfolding head_bytes
returns c =
    rw (
      c.put.ensures.items,
      c.put_field_line-3.ensures.items,
      c.put_own_line.ensures.items,
      c.put_field_line-2.ensures.items,
      c.put_field_line.ensures.items,
      c.put_status_line.ensures.items,
      c.format.ensures.text,
    ) (simp append_assoc)
