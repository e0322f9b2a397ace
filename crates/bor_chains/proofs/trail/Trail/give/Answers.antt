use Rattle.bor_chains.proofs.trail.Trail.give.Goals as goal

pub returns-clause-gives : goal.returns-clause-gives
returns-clause-gives c = record { marks = c.in_ok-add_all.ensures.grown; steps = rw c.len.ensures at c.in_ok-fill.ensures }
