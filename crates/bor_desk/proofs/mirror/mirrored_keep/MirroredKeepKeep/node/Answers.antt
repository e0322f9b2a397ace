use Rattle.std.proofs.Common.{ap, rules, ◌∙◌}
use Rattle.bor_records.specs.Links.Shown.{Shown, info_of}
use Rattle.bor_register.proofs.BareReads.{seen_is}
use Rattle.bor_desk.proofs.OnMirror.Mirroring.{is_read}
use Rattle.bor_desk.proofs.mirror.mirrored_keep.MirroredKeepKeep.node.Goals as goal

pub returns : goal.returns
returns g c =
    is_read g.K.Keep.meaning c.read.ensures (λ was is answer e. search rules) (λ was is answer e. search rules)
    (λ r x told. told ∙ ap (λ (s : Shown). info_of s c.args.node.now) (seen_is c.args.viewer.now c.args.day r))
