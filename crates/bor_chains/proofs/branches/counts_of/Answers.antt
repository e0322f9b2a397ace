use Rattle.std.proofs.Common.{◌≡◌, length, arith}
use Rattle.bor_chains.proofs.Steps.{counts_none, counts_more}
use Rattle.bor_chains.proofs.branches.counts_of.Goals as goal

pub loop-place-init : goal.loop-place-init
loop-place-init c = counts_none c.args.steps.now c.in_ok-counts.counts.items c.in_ok-counts.ensures.items

pub loop-place-preserved : goal.loop-place-preserved
loop-place-preserved c =
    let a = c.loop-place.invariant in
    let seen = rw (← c.as_slice.ensures.value) at a in
    counts_more c.args.steps.now c.loop-place.place c.count_at-count.result c.loop-place.counts.items c.push.new.self.items c.in_ok-push.ensures.items a (c.count_at-count.ensures seen)

pub returns : goal.returns
returns c = let end : c.loop-place.place ≡ length c.args.steps.now = omega arith in rw end at c.loop-place.invariant
