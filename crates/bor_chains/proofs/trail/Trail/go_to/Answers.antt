use Rattle.std.proofs.Common.{◌≡◌, ◌∙◌, sym, Some, true, false}
use Rattle.bor_records.specs.declared.links.node.NodeInfo.TheVariants.{Entity, Person}
use Rattle.bor_records.specs.Links.Shown.{info_of}
use Rattle.bor_chains.proofs.Trails.{follows_class, follows_person, follows_nothing, whole_more}
use Rattle.bor_chains.proofs.trail.Trail.go_to.Goals as goal

pub returns-in_ok-mark_class-in-Entity-true-clause-walked : goal.returns-in_ok-mark_class-in-Entity-true-clause-walked
returns-in_ok-mark_class-in-Entity-true-clause-walked g c = λ m e k told whole. let s = g.S.LinkSource.shown m in
    let crossing = c.args.crossing.now in
    let at : Some (Entity true) ≡ info_of s crossing.link.party = cc (told, c.in-Entity-true.is, c.in-Entity-true.legal-test) in
    let f = follows_class s crossing c.args.self.now c.mark_class.new.self at whole (c.in_ok-mark_class-in-Entity-true.ensures.walked m e k) in
    (whole_more s crossing c.args.self.now c.mark_class.new.self f whole, f)

pub returns-in_ok-mark_person-in-Person-clause-walked : goal.returns-in_ok-mark_person-in-Person-clause-walked
returns-in_ok-mark_person-in-Person-clause-walked g c = λ m e k told whole. let s = g.S.LinkSource.shown m in
    let crossing = c.args.crossing.now in
    let at : Some (Person c.in-Person.field-0) ≡ info_of s crossing.link.party = cc (told, c.in-Person.is) in
    let f = follows_person s crossing c.in-Person.field-0 c.args.self.now c.mark_person.new.self at (rw c.in-Person.is at c.in_ok-mark_person-in-Person.ensures.gives) in
    (whole_more s crossing c.args.self.now c.mark_person.new.self f whole, f)

pub returns-in-Entity-false-clause-walked : goal.returns-in-Entity-false-clause-walked
returns-in-Entity-false-clause-walked g c = λ m e k told whole. let s = g.S.LinkSource.shown m in
    let at : Some (Entity false) ≡ info_of s c.args.crossing.now.link.party = cc (told, c.in-Entity-false.is, c.in-Entity-false.legal-test) in
    (whole, follows_nothing s c.args.crossing.now c.args.self.now (λ legal. let no : Some (Entity false) ≡ Some (Entity true) = at ∙ legal in cc) (λ info h. let no : Some (Entity false) ≡ Some (Person info) = at ∙ sym h in cc))
