use Rattle.std.proofs.Common.{rules, ◌∙◌}
use Rattle.bor_register.proofs.BareReads.{visible_are}
use Rattle.bor_desk.proofs.OnMirror.Mirroring.{is_read}
use Rattle.bor_desk.proofs.mirror.mirrored_keep.MirroredKeepKeep.visible_rows.Goals as goal

pub returns : goal.returns
returns g c =
    is_read g.K.Keep.meaning c.read.ensures (λ was is answer e. search rules) (λ was is answer e. search rules)
    (λ r x told. told ∙ visible_are c.args.viewer.now r)
