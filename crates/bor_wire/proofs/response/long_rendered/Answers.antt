use Rattle.std.proofs.Common.{◌∙◌}
use Rattle.bor_wire.specs.Rendering.Replies.{answered}
use Rattle.bor_wire.proofs.Responses.{said_full}
use Rattle.bor_wire.proofs.response.long_rendered.Goals as goal

pub full-requires : goal.full-requires
full-requires c = said_full (answered c.args.reply) _ _ (c.as_u16-status.ensures.value ∙ c.desk_status.ensures) c.in-Ok.ensures c.requires.status
