use Rattle.std.proofs.Common.{◌∙◌}
use Rattle.bor_wire.specs.Rendering.Values.{register_data}
use Rattle.bor_wire.specs.Rendering.Bodies.{register_text}
use Rattle.bor_wire.proofs.OnRendering.Bodies.{whole}
use Rattle.bor_wire.proofs.rendering.body.register_body.Goals as goal

pub returns : goal.returns
unfolding register_text
returns c =
    let written = c.in_ok-write_register.ensures in
    whole (register_data c.args.agents.now c.args.day) _ _ _ (written.before ∙ c.new-out.ensures.before ∙ c.new.ensures.items) (rw c.new-out.ensures.tokens at written.tokens) c.into_inner.ensures.items
