use Rattle.std.proofs.Common.{◌∙◌}
use Rattle.bor_register.proofs.memory.sight.open_statement.Goals as goal

pub returns-in-Some : goal.returns-in-Some
returns-in-Some c = c.unless_closed.ensures ∙ (rw c.in-Some.is at c.latest.ensures)

pub returns-in-None : goal.returns-in-None
returns-in-None c = rw c.in-None.is at c.latest.ensures
