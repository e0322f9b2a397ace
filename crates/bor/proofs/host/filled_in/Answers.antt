use Rattle.bor.proofs.host.filled_in.Goals as goal

pub returns : goal.returns
returns g c = λ clean r held. (c.fill-mirrored.ensures.kept.same clean r).0 (c.in_ok-register.ensures (c.fill-mirrored.ensures.kept.began clean) r held)
