use Rattle.std.proofs.Common.{◌∙◌, ◌++◌, ◌∷◌, [], ap, subst, sym}
use Rattle.bor_records.specs.declared.links.node.Node.{Node}
use Rattle.bor_records.specs.Links.Shown.{listed_at}
use Rattle.bor_records.proofs.OnLinks.Listed.{found_is}
use Rattle.bor_desk.specs.Kin.{AreKin, NoneFound}
use Rattle.bor_desk.proofs.OnEvidence.Kin.{kin_same}
use Rattle.bor_desk.proofs.evidence.kin.Kin.add_listed.Goals as goal

pub returns-in_default : goal.returns-in_default
returns-in_default c = λ s nodes node of listed. kin_same s nodes node c.args.self.now _ (listed ∙ c.in_default.is) tt of

pub returns-then-not-is_entity : goal.returns-then-not-is_entity
returns-then-not-is_entity c = λ s nodes node of listed.
    kin_same s nodes node c.args.self.now _ (listed ∙ c.in-Some.is) (sym c.is_entity.ensures ∙ c.if-not-is_entity.true) of

pub returns : goal.returns
returns c = λ s nodes node of listed.
    let at = listed ∙ c.in-Some.is in
    let same = (found_is s.nodes node _ at).1 in
    subst (λ (n : Node). AreKin s (nodes ++ n ∷ []) NoneFound c.add.new.self) same
    (c.in_ok-add.ensures s nodes of (ap (λ (n : Node). listed_at s.nodes n) same ∙ at) (sym c.is_entity.ensures ∙ c.if-not-is_entity.false))
