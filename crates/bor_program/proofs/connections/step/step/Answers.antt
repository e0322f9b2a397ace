use Rattle.bor_program.proofs.connections.step.step.Goals as goal

pub returns-in-Reading-clause-step : goal.returns-in-Reading-clause-step
returns-in-Reading-clause-step g c = rw c.in-Reading.is c.read_on.ensures.step

pub returns-in-Draining-clause-time : goal.returns-in-Draining-clause-time
returns-in-Draining-clause-time g c = λ taking is. c.drain_on.ensures.time taking
