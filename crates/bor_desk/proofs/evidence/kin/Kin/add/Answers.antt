use Rattle.std.proofs.Common.{List, subst}
use Rattle.bor_records.specs.declared.links.sign.Sign.{Sign}
use Rattle.bor_records.proofs.OnLinks.Exact.{exact_sign}
use Rattle.bor_desk.specs.declared.evidence.kin.Kin.{Kin}
use Rattle.bor_desk.specs.Kin.{signed_in}
use Rattle.bor_records.specs.Links.Values.{IsNoted}
use Rattle.bor_desk.proofs.OnEvidence.Kin.{kin_added}
use Rattle.bor_desk.proofs.evidence.kin.Kin.add.Goals as goal

pub returns : goal.returns
returns c = λ s nodes of listed entity.
    let one = c.args.one.now in
    let new : Kin = record { signs = c.insert.new.self; signed = c.note.new.map } in
    kin_added s nodes one c.args.self.now new c.in_ok-copy.field-0 c.in_ok-signs.signs c.in_ok-copy.ensures c.in_ok-signs.ensures c.in_ok-insert.ensures.updates.0
    (subst (λ (ks : List Sign). IsNoted ks one.node (signed_in c.args.self.now) (signed_in new)) c.in_ok-keys.ensures (c.in_ok-note.ensures exact_sign)) listed entity of
