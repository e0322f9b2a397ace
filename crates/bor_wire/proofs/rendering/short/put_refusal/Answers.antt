use Rattle.std.proofs.Common.{append_assoc}
use Rattle.bor_wire.proofs.OnRendering.ShortTexts.{refusal_is, refusal_parts}
use Rattle.bor_wire.proofs.rendering.short.put_refusal.Goals as goal

pub returns-clause-items : goal.returns-clause-items
unfolding refusal_parts
returns-clause-items c =
    rw (
      ← refusal_is c.args.name.now c.args.place _,
      c.put-3.ensures.items,
      c.put_quoted.ensures.items,
      c.put-2.ensures.items,
      c.put_place.ensures.items,
      c.put_field.ensures.items,
      c.put.ensures.items,
      c.as_bytes.ensures.value,
    ) (simp append_assoc)
