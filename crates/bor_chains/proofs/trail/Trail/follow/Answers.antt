use Rattle.std.proofs.Common.{◌≡◌, ◌∙◌, sym, Some, None, true}
use Rattle.bor_records.specs.declared.links.node.NodeInfo.TheVariants.{Entity, Person}
use Rattle.bor_records.specs.Links.Shown.{info_of}
use Rattle.bor_chains.proofs.Trails.{follows_nothing}
use Rattle.bor_chains.proofs.trail.Trail.follow.Goals as goal

pub returns-in_ok-go_to-in-Ok-Some-clause-walked : goal.returns-in_ok-go_to-in-Ok-Some-clause-walked
returns-in_ok-go_to-in-Ok-Some-clause-walked g c = λ m e k whole.
    let began = c.go_to.ensures.kept.began k in
    let told : Some c.in-Ok-Some.info ≡ info_of (g.S.LinkSource.shown m) c.args.crossing.now.link.party = cc (c.in-Ok-Some.ensures.reads.answer m e began) in
    c.in_ok-go_to-in-Ok-Some.ensures.walked m ((c.node.ensures.reads.kept.same began m).0 e) k told whole

pub returns-in-Ok-None-clause-walked : goal.returns-in-Ok-None-clause-walked
returns-in-Ok-None-clause-walked g c = λ m e k whole. let s = g.S.LinkSource.shown m in
    let at : None ≡ info_of s c.args.crossing.now.link.party = cc (c.in-Ok-None.ensures.reads.answer m e k) in
    (whole, follows_nothing s c.args.crossing.now c.args.self.now (λ legal. let no : None ≡ Some (Entity true) = at ∙ legal in cc) (λ info h. let no : None ≡ Some (Person info) = at ∙ sym h in cc))
