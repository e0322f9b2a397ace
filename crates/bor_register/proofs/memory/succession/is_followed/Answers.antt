use Rattle.bor_register.proofs.OnMemory.Succeeded.{followed}
use Rattle.bor_register.proofs.memory.succession.is_followed.Goals as goal

pub returns-in-Some : goal.returns-in-Some
returns-in-Some c = rw (← c.last_standing.ensures, c.in-Some.is) at (followed c.args.node.now c.args.at c.args.filings.now c.args.places.now c.requires)

pub returns-in-None : goal.returns-in-None
returns-in-None c = rw (← c.last_standing.ensures, c.in-None.is) at (followed c.args.node.now c.args.at c.args.filings.now c.args.places.now c.requires)
