use Rattle.std.proofs.Common.{◌∙◌, Option, Some, None, ap}
use Rattle.bor_records.specs.declared.links.node.NodeInfo.{NodeInfo}
use Rattle.bor_records.specs.Links.Rows.{is_some_info}
use Rattle.bor_records.proofs.OnLinks.Stated.{info_open}
use Rattle.bor_register.specs.Memory.Sighted.{rows_in_sight}
use Rattle.bor_register.proofs.memory.sight.is_node.Goals as goal

pub returns-in-Some : goal.returns-in-Some
returns-in-Some c =
    c.is_node_stated.ensures ∙ ap (λ (i : Option NodeInfo). is_some_info i)
    (info_open c.args.sight.now.day (rows_in_sight c.args.sight.now) c.args.node.now (Some c.in-Some.statement.now) (rw c.in-Some.is at c.open_statement.ensures))

pub returns-in-None : goal.returns-in-None
returns-in-None c =
    ap (λ (i : Option NodeInfo). is_some_info i)
    (info_open c.args.sight.now.day (rows_in_sight c.args.sight.now) c.args.node.now None (rw c.in-None.is at c.open_statement.ensures))
