use Rattle.std.proofs.Common.{◌∙◌}
use Rattle.bor_wire.specs.Rendering.Values.{list_data}
use Rattle.bor_wire.proofs.OnRendering.Bodies.{whole}
use Rattle.bor_wire.proofs.rendering.body.array_body.Goals as goal

pub returns : goal.returns
returns g c =
    let written = c.in_ok-write_array.ensures in
    whole (list_data g.T.Shown.as_data c.args.items.now) _ _ _ (written.before ∙ c.new-out.ensures.before ∙ c.new.ensures.items) (rw c.new-out.ensures.tokens at written.tokens) c.into_inner.ensures.items
