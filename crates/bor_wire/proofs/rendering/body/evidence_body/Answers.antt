use Rattle.std.proofs.Common.{◌∙◌}
use Rattle.bor_wire.specs.Rendering.Values.{evidence_data}
use Rattle.bor_wire.specs.Rendering.Bodies.{evidence_text}
use Rattle.bor_wire.proofs.OnRendering.Bodies.{whole}
use Rattle.bor_wire.proofs.rendering.body.evidence_body.Goals as goal

pub returns : goal.returns
unfolding evidence_text
returns c =
    let written = c.in_ok-write_evidence.ensures in
    whole (evidence_data c.args.entity.now c.args.date c.args.evidence.now) _ _ _ (written.before ∙ c.new-out.ensures.before ∙ c.new.ensures.items) (rw c.new-out.ensures.tokens at written.tokens) c.into_inner.ensures.items
