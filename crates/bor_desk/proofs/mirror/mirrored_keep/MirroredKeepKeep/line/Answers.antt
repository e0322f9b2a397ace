use Rattle.std.proofs.Common.{rules, ◌∙◌}
use Rattle.bor_register.proofs.BareReads.{line_is}
use Rattle.bor_desk.proofs.OnMirror.Mirroring.{is_read}
use Rattle.bor_desk.proofs.mirror.mirrored_keep.MirroredKeepKeep.line.Goals as goal

pub returns : goal.returns
returns g c =
    is_read g.K.Keep.meaning c.read.ensures (λ was is answer e. search rules) (λ was is answer e. search rules)
    (λ r x told. told ∙ line_is c.args.agent.now c.args.key.now r.day r.members)
