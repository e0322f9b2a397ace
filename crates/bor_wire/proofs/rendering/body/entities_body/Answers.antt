use Rattle.std.proofs.Common.{◌∙◌}
use Rattle.bor_wire.specs.Rendering.Values.{entities_data}
use Rattle.bor_wire.specs.Rendering.Bodies.{entities_text}
use Rattle.bor_wire.proofs.OnRendering.Bodies.{whole}
use Rattle.bor_wire.proofs.rendering.body.entities_body.Goals as goal

pub returns : goal.returns
unfolding entities_text
returns c =
    let written = c.in_ok-write_entities.ensures in
    whole (entities_data c.args.identifier.now c.args.date c.args.records.now) _ _ _ (written.before ∙ c.new-out.ensures.before ∙ c.new.ensures.items) (rw c.new-out.ensures.tokens at written.tokens) c.into_inner.ensures.items
