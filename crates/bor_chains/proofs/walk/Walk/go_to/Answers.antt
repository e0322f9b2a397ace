use Rattle.bor_records.proofs.KeptLaws.{kept_then}
use Rattle.std.proofs.Common.{◌≡◌, ◌∙◌, ap, subst, Some, None, true, false}
use Rattle.bor_records.specs.declared.links.node.Node.{Node}
use Rattle.bor_records.specs.declared.links.node.NodeInfo.TheVariants.{Entity, Person}
use Rattle.bor_records.specs.Links.Growth.{Grown}
use Rattle.bor_records.specs.Links.Shown.{info_of}
use Rattle.bor_chains.specs.declared.marks.Mark.TheVariants.{Middle}
use Rattle.bor_chains.specs.Marks.{AreClosed, IsSameAs}
use Rattle.bor_chains.proofs.Following.{follow_legal, follow_nothing, follow_person}
use Rattle.bor_chains.proofs.walk.Walk.go_to.Goals as goal

pub returns-in_ok-mark_class-in-Ok-Some-Entity-true-clause-walked :
    goal.returns-in_ok-mark_class-in-Ok-Some-Entity-true-clause-walked
returns-in_ok-mark_class-in-Ok-Some-Entity-true-clause-walked g c = λ m e k mark link t p.
    let s = g.S.LinkSource.shown m in
    let told = c.in-Ok-Some-Entity-true.ensures.reads.answer m e (c.mark_class.ensures.kept.began k) in
    let at : Some (Entity true) ≡ info_of s link.party = cc (told, ap (info_of s) p) in
    let walked = c.in_ok-mark_class-in-Ok-Some-Entity-true.ensures.walked m ((c.node.ensures.reads.kept.same (c.mark_class.ensures.kept.began k) m).0 e) k in
    follow_legal s mark link c.args.count _ c.mark_class.new.self t at
    (subst (λ (n : Node). AreClosed s c.args.self.now.marks → AreClosed s c.mark_class.new.self.marks × Grown (IsSameAs s n Middle) c.args.self.now.marks c.mark_class.new.self.marks) p walked)
    c.mark_class.ensures.found

pub returns-in_ok-push-in-Ok-Some-Person-clause-walked : goal.returns-in_ok-push-in-Ok-Some-Person-clause-walked
returns-in_ok-push-in-Ok-Some-Person-clause-walked g c = λ m e k mark link t p.
    let s = g.S.LinkSource.shown m in
    let told = c.in-Ok-Some-Person.ensures.reads.answer m e k in
    let at : Some (Person c.in-Ok-Some-Person.info) ≡ info_of s link.party = cc (told, ap (info_of s) p) in
    follow_person s mark link _ _ (record { node = c.args.party; info = c.in-Ok-Some-Person.info; links = c.args.count }) t at p
    c.in_ok-push-in-Ok-Some-Person.ensures.found c.push.ensures.marks

pub returns-in-Ok-None-clause-walked : goal.returns-in-Ok-None-clause-walked
returns-in-Ok-None-clause-walked g c = λ m e k mark link t p.
    let s = g.S.LinkSource.shown m in
    let told = c.in-Ok-None.ensures.reads.answer m e k in
    let at : None ≡ info_of s link.party = cc (told, ap (info_of s) p) in
    follow_nothing s mark link c.args.count c.args.self.now (λ h. let no : None ≡ Some (Entity true) = at ∙ h in cc) (λ info h. let no : None ≡ Some (Person info) = at ∙ h in cc)

pub returns-in-Ok-Some-Entity-false-clause-walked : goal.returns-in-Ok-Some-Entity-false-clause-walked
returns-in-Ok-Some-Entity-false-clause-walked g c = λ m e k mark link t p.
    let s = g.S.LinkSource.shown m in
    let told = c.in-Ok-Some-Entity-false.ensures.reads.answer m e k in
    let at : Some (Entity false) ≡ info_of s link.party = cc (told, ap (info_of s) p) in
    follow_nothing s mark link c.args.count c.args.self.now (λ h. let no : Some (Entity false) ≡ Some (Entity true) = at ∙ h in cc) (λ info h. let no : Some (Entity false) ≡ Some (Person info) = at ∙ h in cc)

pub returns-in_ok-mark_class-in-Ok-Some-Entity-true-clause-kept : goal.returns-in_ok-mark_class-in-Ok-Some-Entity-true-clause-kept
returns-in_ok-mark_class-in-Ok-Some-Entity-true-clause-kept g c = kept_then _ _ _ _ c.node.ensures.reads.kept c.mark_class.ensures.kept

pub returns-in_err-mark_class-in-Ok-Some-Entity-true-clause-kept : goal.returns-in_err-mark_class-in-Ok-Some-Entity-true-clause-kept
returns-in_err-mark_class-in-Ok-Some-Entity-true-clause-kept g c = kept_then _ _ _ _ c.node.ensures.reads.kept c.mark_class.ensures.kept
