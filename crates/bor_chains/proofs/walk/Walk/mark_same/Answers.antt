use Rattle.bor_chains.proofs.Telling.{class_all, class_there}
use Rattle.bor_chains.proofs.walk.Walk.mark_same.Goals as goal

pub returns-then-has-clause-walked : goal.returns-then-has-clause-walked
returns-then-has-clause-walked g c = λ m e k closed. class_there (g.S.LinkSource.shown m) c.args.marked.now.node c.args.marked.now.mark c.args.self.now.marks (c.has.ensures.0 c.if-has.true) closed

pub returns-clause-walked : goal.returns-clause-walked
returns-clause-walked g c = λ m e k closed.
    class_all (g.S.LinkSource.shown m) c.args.marked.now.node c.args.marked.now.mark c.in-Ok.nodes.items c.args.self.now.marks c.add_all.new.self (c.in-Ok.ensures.reads.answer m e k) c.in_ok-add_all.ensures.grown closed
