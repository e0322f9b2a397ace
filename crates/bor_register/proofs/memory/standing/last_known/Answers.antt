use Rattle.std.proofs.Common.{◌∙◌}
use Rattle.bor_register.proofs.OnMemory.Sighted.{last_sited}
use Rattle.bor_register.proofs.memory.standing.last_known.Goals as goal

pub returns-in-Some : goal.returns-in-Some
returns-in-Some c = c.known_at.ensures ∙ (rw (← c.last_standing.ensures, c.in-Some.is) at (last_sited c.args.node.now c.args.filings.now c.args.places.now c.requires))

pub returns-in-None : goal.returns-in-None
returns-in-None c = rw (← c.last_standing.ensures, c.in-None.is) at (last_sited c.args.node.now c.args.filings.now c.args.places.now c.requires)
