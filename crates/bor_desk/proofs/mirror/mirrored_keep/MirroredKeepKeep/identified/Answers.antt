use Rattle.std.proofs.Common.{rules, subst}
use Rattle.bor_records.specs.Links.Answers.{AreIdentified}
use Rattle.bor_records.specs.Links.Shown.{Shown}
use Rattle.bor_register.proofs.BareReads.{seen_is}
use Rattle.bor_desk.proofs.OnMirror.Mirroring.{is_read}
use Rattle.bor_desk.proofs.mirror.mirrored_keep.MirroredKeepKeep.identified.Goals as goal

pub returns : goal.returns
returns g c =
    is_read g.K.Keep.meaning c.read.ensures (λ was is answer e. search rules) (λ was is answer e. search rules)
    (λ r x told. subst (λ (s : Shown). AreIdentified s c.args.identifier.now x.items) (seen_is c.args.viewer.now c.args.day r) told)
