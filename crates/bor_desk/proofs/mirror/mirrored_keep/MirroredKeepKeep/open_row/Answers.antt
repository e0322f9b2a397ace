use Rattle.std.proofs.Common.{rules, ◌∙◌}
use Rattle.bor_register.proofs.BareReads.{open_row_is}
use Rattle.bor_desk.proofs.OnMirror.Mirroring.{is_read}
use Rattle.bor_desk.proofs.mirror.mirrored_keep.MirroredKeepKeep.open_row.Goals as goal

pub returns : goal.returns
returns g c =
    is_read g.K.Keep.meaning c.read.ensures (λ was is answer e. search rules) (λ was is answer e. search rules)
    (λ r x told. told ∙ open_row_is c.args.viewer.now c.args.day c.args.node.now r)
