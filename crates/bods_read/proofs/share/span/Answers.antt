use Rattle.std.proofs.Common.{ap, ◌∙◌}
use Rattle.bor_terms.specs.Shown.{shown}
use Rattle.bods_read.specs.Share.{share_bounds, lows, highs}
use Rattle.bods_read.proofs.Bounds.{points-made}
use Rattle.bods_read.proofs.share.span.Goals as goal

pub returns-in-Some : goal.returns-in-Some
unfolding share_bounds
returns-in-Some c =
    let small = rw c.in-Some.is at c.requires.exact in
    rw c.in-Some.is (c.new.ensures.shown small small)

pub returns-in-None : goal.returns-in-None
unfolding share_bounds
returns-in-None c =
    let s = c.args.share.now in
    let low = c.low_end-low.result in
    let high = c.high_end-high.result in
    let made = points-made low.at low.is_open high.at high.is_open (lows s.minimum s.exclusive_minimum) (highs s.maximum s.exclusive_maximum) c.low_end-low.ensures.same c.high_end-high.ensures.same in
    rw c.in-None.is (c.new-in-None.ensures.shown c.low_end-low.ensures.within c.high_end-high.ensures.within ∙ ap shown made)
