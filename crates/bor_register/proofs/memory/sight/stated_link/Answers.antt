use Rattle.std.proofs.Common.{◌∙◌, Some, None}
use Rattle.bor_register.specs.Memory.Sighted.{rows_in_sight}
use Rattle.bor_register.proofs.OnMemory.Sighted.{link_open}
use Rattle.bor_register.proofs.OnMemory.Told.{told_then}
use Rattle.bor_register.proofs.memory.sight.stated_link.Goals as goal

pub returns-in-Some : goal.returns-in-Some
returns-in-Some c =
    told_then c.link_stated.result _ _
    (λ link h. h ∙ link_open c.args.sight.now.day (rows_in_sight c.args.sight.now) c.args.subject.now c.args.rec.now (Some c.in-Some.statement.now) (rw c.in-Some.is at c.open_statement.ensures))
    c.link_stated.ensures

pub returns-in-None : goal.returns-in-None
returns-in-None c =
    link_open c.args.sight.now.day (rows_in_sight c.args.sight.now) c.args.subject.now c.args.rec.now None (rw c.in-None.is at c.open_statement.ensures)
