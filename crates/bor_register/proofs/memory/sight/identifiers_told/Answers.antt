use Rattle.std.proofs.Common.{◌∙◌, Some, None}
use Rattle.bor_register.specs.Memory.Sighted.{rows_in_sight}
use Rattle.bor_register.proofs.OnMemory.Sighted.{identifiers_open}
use Rattle.bor_register.proofs.memory.sight.identifiers_told.Goals as goal

pub returns-in-Some : goal.returns-in-Some
returns-in-Some c =
    c.identifiers_stated.ensures ∙ identifiers_open c.args.sight.now.day (rows_in_sight c.args.sight.now) c.args.node.now (Some c.in-Some.statement.now) (rw c.in-Some.is at c.open_statement.ensures)

pub returns-in-None : goal.returns-in-None
returns-in-None c =
    identifiers_open c.args.sight.now.day (rows_in_sight c.args.sight.now) c.args.node.now None (rw c.in-None.is at c.open_statement.ensures)
