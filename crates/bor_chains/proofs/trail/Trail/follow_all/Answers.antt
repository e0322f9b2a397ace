use Rattle.std.proofs.Common.{◌∙◌, [], arith, rules, refl, sym}
use Rattle.std.proofs.lemmas.Iterator.Consumers.{YieldsList-end}
use Rattle.std.proofs.lemmas.Iterator.Adapters.{YieldsList-from_vec}
use Rattle.std.proofs.lemmas.List.{map-id}
use Rattle.bor_records.proofs.KeptLaws.{kept_then, lasts_then, same_lasts}
use Rattle.bor_chains.proofs.Trails.{to_none, to_next}
use Rattle.bor_chains.proofs.trail.Trail.follow_all.Goals as goal

pub loop-crossing-init : goal.loop-crossing-init
loop-crossing-init g c = record {
  longer = omega arith;
  same_reference = refl;
  kept = search rules;
  lasts = same_lasts _ _;
  counts = refl;
  walked = λ m e k beside whole. (whole, to_none (g.S.LinkSource.shown m) [] c.args.self.now);
}

pub loop-crossing-preserved : goal.loop-crossing-preserved
loop-crossing-preserved g c =
    let invariant = c.loop-crossing.invariant in
    record {
      longer = omega (arith, invariant.longer, c.in_ok-followed.ensures.longer);
      same_reference = cc (c.follow-followed.ensures.same_reference, invariant.same_reference);
      kept = kept_then _ _ _ _ invariant.kept c.follow-followed.ensures.kept;
      lasts = lasts_then _ _ _ _ invariant.lasts c.in_ok-followed.ensures.accounted.lasts;
      counts = cc (c.in_ok-followed.ensures.accounted.counts, invariant.counts);
      walked = λ m e k beside whole.
          let s = g.S.LinkSource.shown m in
          let clean = c.follow-followed.ensures.kept.began k in
          let before = invariant.walked m e clean beside whole in
          let more = c.in_ok-followed.ensures.walked m ((invariant.kept.same clean m).0 e) k before.0 in
          (more.0, to_next s c.loop-crossing.yielded c.in-Some.crossing c.args.self.now c.loop-crossing.self c.follow-followed.new.self beside before.1 more.1);
    }

pub returns-clause-walked : goal.returns-clause-walked
returns-clause-walked g c = λ m e k beside whole.
    let s = g.S.LinkSource.shown m in
    let gives = c.into_iter-crossing-iterator.ensures.into_iter_gives in
    let all = YieldsList-end (YieldsList-from_vec c.args.crossings.items gives.0 (gives.1 ∙ c.args.crossings.ok.0)) c.loop-crossing.yielded c.loop-crossing.crossing-iterator c.loop-crossing.yielded_by c.next.result c.next.new.self c.in-None.is c.next.ensures.steps in
    let r = c.loop-crossing.invariant.walked m e k beside whole in
    (r.0, rw (sym (map-id c.loop-crossing.yielded) ∙ all.0) at r.1)

pub returns-in_err-followed-clause-kept : goal.returns-in_err-followed-clause-kept
returns-in_err-followed-clause-kept g c = kept_then _ _ _ _ c.loop-crossing.invariant.kept c.follow-followed.ensures.kept
