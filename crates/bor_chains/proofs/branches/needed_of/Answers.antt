use Rattle.std.proofs.Common.{◌≡◌, ◌+◌, ◌-◌, arith, ◌∙◌}
use Rattle.bor_chains.proofs.Steps.{needed_none}
use Rattle.bor_chains.proofs.branches.needed_of.Goals as goal

pub loop-place-init : goal.loop-place-init
loop-place-init c = record {
  within = omega arith;
  long = c.in_ok-needed.ensures.long;
  needed = needed_none c.args.steps.now c.in_ok-needed.needed.items c.in_ok-needed.ensures.long c.in_ok-needed.ensures.all;
}

pub loop-place-preserved : goal.loop-place-preserved
loop-place-preserved c =
    let invariant = c.loop-place.invariant in
    let place : c.loop-place.place ≡ c.loop-place.place - 1 + 1 = omega arith in
    record {
      within = omega (arith, invariant.within);
      long = c.need_below.ensures.long ∙ invariant.long;
      needed = c.need_below.ensures.needed (rw place at invariant.needed);
    }

pub returns : goal.returns
returns c = let end : c.loop-place.place ≡ 0 = omega arith in rw end at c.loop-place.invariant.needed
