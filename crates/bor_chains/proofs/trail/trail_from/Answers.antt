use Rattle.std.proofs.Common.{◌+◌, arith}
use Rattle.bor_records.proofs.KeptLaws.{kept_then, lasts_then}
use Rattle.bor_chains.proofs.Trails.{level_all}
use Rattle.bor_chains.proofs.trail.trail_from.Goals as goal

pub loop-start-init : goal.loop-start-init
loop-start-init g c = record {
  within = omega arith;
  same_reference = c.begin.ensures.same_reference;
  kept = c.begin.ensures.kept;
  lasts = c.in_ok-trail.ensures.accounted.lasts;
  counts = c.in_ok-trail.ensures.accounted.counts;
  walked = λ m e k. (0, c.in_ok-trail.ensures.walked m e k);
}

pub loop-start-preserved : goal.loop-start-preserved
loop-start-preserved g c =
    let invariant = c.loop-start.invariant in
    record {
      within = omega (arith, c.in_ok-go_on.ensures.longer);
      same_reference = cc (c.go_on.ensures.same_reference, invariant.same_reference);
      kept = kept_then _ _ _ _ invariant.kept c.go_on.ensures.kept;
      lasts = lasts_then _ _ _ _ invariant.lasts c.in_ok-go_on.ensures.accounted.lasts;
      counts = cc (c.in_ok-go_on.ensures.accounted.counts, invariant.counts);
      walked = λ m e k.
          let began = c.go_on.ensures.kept.began k in
          let at = invariant.walked m e began in (
            at.0 + 1,
            rw (← c.len-end.ensures) at (c.in_ok-go_on.ensures.walked m ((invariant.kept.same began m).0 e) k c.args.target.now at.0 at.1),
          );
    }

pub returns-clause-walked : goal.returns-clause-walked
returns-clause-walked g c = λ m e k.
    let at = c.loop-start.invariant.walked m e k in
    level_all (g.S.LinkSource.shown m) c.args.target.now c.loop-start.start at.0 c.loop-start.trail (omega arith) at.1

pub returns-in_err-go_on-clause-kept : goal.returns-in_err-go_on-clause-kept
returns-in_err-go_on-clause-kept g c = kept_then _ _ _ _ c.loop-start.invariant.kept c.go_on.ensures.kept
