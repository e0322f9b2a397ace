use Rattle.std.proofs.Common.{[], List, Option, Vec, Global, ap, subst, ◌∙◌}
use Rattle.std.specs.Prelude.{IfOk}
use Rattle.bor_records.specs.declared.links.sign.Sign.{Sign}
use Rattle.bor_records.specs.Links.Signs.{sign_cmp}
use Rattle.bor_desk.specs.Kin.{AreTaken, signed_in, signs_under}
use Rattle.bor_records.specs.Links.Values.{under}
use Rattle.bor_desk.proofs.evidence.kin.Kin.take_near.Goals as goal

pub returns-in-Some-clause-taken : goal.returns-in-Some-clause-taken
returns-in-Some-clause-taken c =
    subst (λ (ks : List Sign). IfOk c.take_all.result (λ near. AreTaken ks (signed_in c.args.self.now) (under sign_cmp c.take_all.new.signed) [] near.items))
    (c.deref.ensures.value ∙ ap (λ (o : Option (Vec Sign Global)). signs_under o) c.in-Some.ensures.value) c.take_all.ensures
