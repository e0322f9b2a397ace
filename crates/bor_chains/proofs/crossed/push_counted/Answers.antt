use Rattle.std.proofs.Common.{arith}
use Rattle.std.proofs.lemmas.List.{nil_from_length}
use Rattle.bor_chains.proofs.Trails.{counted_none, counted_more, counted_all}
use Rattle.bor_chains.proofs.crossed.push_counted.Goals as goal

pub loop-link-init : goal.loop-link-init
loop-link-init c = counted_none c.args.links.items c.args.mark c.args.below c.args.crossings.now.items

pub loop-link-preserved : goal.loop-link-preserved
loop-link-preserved c =
    counted_more c.args.links.items c.args.mark c.args.below c.loop-link.left.items c.pop.new.self.items c.in-Some.link c.args.crossings.now.items c.loop-link.crossings.items c.push_one.new.crossings.items
    c.in-Some.ensures.items c.in_ok-push_one.ensures c.loop-link.invariant

pub returns : goal.returns
returns c = counted_all c.args.links.items c.args.mark c.args.below c.loop-link.left.items c.args.crossings.now.items c.loop-link.crossings.items (nil_from_length c.loop-link.left.items (omega (arith, c.in_default.ensures.cases.0))) c.loop-link.invariant
