use Rattle.std.proofs.Common.{◌∙◌, sym}
use Rattle.bor_chains.proofs.Trails.{none_crossed, links_crossed}
use Rattle.bor_chains.proofs.crossed.cross_one.Goals as goal

pub returns-then-is_holder-clause-crossed : goal.returns-then-is_holder-clause-crossed
returns-then-is_holder-clause-crossed g c = λ m e k. none_crossed (g.S.LinkSource.shown m) c.args.marked.now c.args.below c.args.crossings.now.items (sym c.is_holder.ensures ∙ c.if-is_holder.true)

pub returns-clause-crossed : goal.returns-clause-crossed
returns-clause-crossed g c = λ m e k.
    links_crossed (g.S.LinkSource.shown m) c.args.marked.now c.args.below c.in-Ok.links.items c.args.crossings.now.items c.push_counted.new.crossings.items (c.in-Ok.ensures.reads.answer m e k) c.in_ok-push_counted.ensures
