use Rattle.std.proofs.Common.{◌≡◌, length, arith, rules, refl}
use Rattle.bor_records.proofs.KeptLaws.{kept_then, lasts_then, same_lasts}
use Rattle.bor_chains.proofs.Trails.{crossings_none, crossings_more}
use Rattle.bor_chains.proofs.crossed.crossings_from.Goals as goal

pub loop-place-init : goal.loop-place-init
loop-place-init g c = record {
  same_reference = refl;
  kept = search rules;
  lasts = same_lasts _ _;
  counts = refl;
  crossed = λ m e k. crossings_none (g.S.LinkSource.shown m) c.args.marks.now c.args.start _ c.new-crossings.ensures.items;
}

pub loop-place-preserved : goal.loop-place-preserved
loop-place-preserved g c =
    let invariant = c.loop-place.invariant in
    record {
      same_reference = cc (c.cross_one.ensures.same_reference, invariant.same_reference);
      kept = kept_then _ _ _ _ invariant.kept c.cross_one.ensures.kept;
      lasts = lasts_then _ _ _ _ invariant.lasts c.in_ok-cross_one.ensures.accounted.lasts;
      counts = cc (c.in_ok-cross_one.ensures.accounted.counts, invariant.counts);
      crossed = λ m e k. let s = g.S.LinkSource.shown m in
          let clean = c.cross_one.ensures.kept.began k in
          crossings_more s c.args.marks.now c.args.start c.loop-place.place c.at.result.now c.loop-place.crossings.items c.cross_one.new.crossings.items (omega arith) (omega arith) c.at.ensures
          (invariant.crossed m e clean) (c.in_ok-cross_one.ensures.crossed m ((invariant.kept.same clean m).0 e) k);
    }

pub returns-clause-crossed : goal.returns-clause-crossed
returns-clause-crossed g c = λ m e k. let end : c.loop-place.place ≡ length c.args.marks.now = omega arith in rw end at (c.loop-place.invariant.crossed m e k)

pub returns-in_err-cross_one-clause-kept : goal.returns-in_err-cross_one-clause-kept
returns-in_err-cross_one-clause-kept g c = kept_then _ _ _ _ c.loop-place.invariant.kept c.cross_one.ensures.kept
