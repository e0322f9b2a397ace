use Rattle.bor_records.proofs.KeptLaws.{kept_then}
use Rattle.std.proofs.Common.{length}
use Rattle.std.proofs.lemmas.List.Sorted.{Contains-permutation, IsPermutation-sym}
use Rattle.bor_chains.specs.Crossings.{AreCrossings}
use Rattle.bor_chains.proofs.Trails.{level_step}
use Rattle.bor_chains.proofs.trail.Trail.go_on.Goals as goal

pub returns-clause-walked : goal.returns-clause-walked
returns-clause-walked g c = λ m e k entity level at.
    let s = g.S.LinkSource.shown m in
    let clean = c.follow_all.ensures.kept.began k in
    let found = c.in_ok-found.ensures.crossed m e clean in
    let all : AreCrossings s c.args.self.now.marks c.args.start (length c.args.self.now.marks) c.in_ok-crossings.crossings.items = λ x. ((λ h. (found x).0 (Contains-permutation _ _ x (IsPermutation-sym _ _ c.in_ok-crossings.ensures.same) h)), (λ h. Contains-permutation _ _ x c.in_ok-crossings.ensures.same ((found x).1 h))) in
    let then = (c.crossings_from.ensures.kept.same clean m).0 e in
    let goes = c.in_ok-follow_all.ensures.walked m then k at.beside at.whole in
    level_step s entity c.args.start level c.args.self.now c.follow_all.new.self c.in_ok-crossings.crossings.items at all c.in_ok-crossings.ensures.sorted goes.0 goes.1

pub returns-in_err-follow_all-clause-kept : goal.returns-in_err-follow_all-clause-kept
returns-in_err-follow_all-clause-kept g c = kept_then _ _ _ _ c.crossings_from.ensures.kept c.follow_all.ensures.kept

pub returns-clause-kept : goal.returns-clause-kept
returns-clause-kept g c = kept_then _ _ _ _ c.crossings_from.ensures.kept c.follow_all.ensures.kept
