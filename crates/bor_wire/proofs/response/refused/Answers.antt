use Rattle.std.proofs.Common.{rules}
use Rattle.bor_wire.specs.Rendering.Replies.{refused}
use Rattle.bor_wire.proofs.Responses.{refusal_served, said_full}
use Rattle.bor_wire.proofs.response.refused.Goals as goal

pub full-requires : goal.full-requires
full-requires c = said_full (refused c.args.refusal) _ _ (search rules) c.render_refusal.ensures (refusal_served c.args.refusal)
