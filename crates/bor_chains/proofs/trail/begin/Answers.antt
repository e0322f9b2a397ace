use Rattle.bor_chains.proofs.Trails.{level_start}
use Rattle.bor_chains.proofs.trail.begin.Goals as goal

pub returns-clause-walked : goal.returns-clause-walked
returns-clause-walked g c = λ m e k.
    level_start (g.S.LinkSource.shown m) c.args.target.now c.in-Ok.nodes.items (record { marks = c.add_all.new.self; steps = c.in_ok-steps.steps }) (c.in-Ok.ensures.reads.answer m e k)
    (rw c.new-marks.ensures at c.in_ok-add_all.ensures.grown) (rw c.len.ensures at c.in_ok-steps.ensures)
