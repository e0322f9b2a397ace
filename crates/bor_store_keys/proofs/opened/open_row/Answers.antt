use Rattle.std.proofs.Common.{◌∙◌, Some, ap, sym}
use Rattle.bor_store_reads.proofs.Reading.{read_next, read_so}
use Rattle.bor_store_keys.proofs.Told.{row_found}
use Rattle.bor_store_keys.proofs.opened.open_row.Goals as goal

pub returns-in_ok-listed-in-Some : goal.returns-in_ok-listed-in-Some
returns-in_ok-listed-in-Some g c = read_so (read_next c.in_ok-row.ensures c.in_ok-listed-in-Some.ensures)
    (λ r stored is. ap Some is.1 ∙ row_found c.args.view.now c.args.node.now r stored c.in-Some.row (sym c.in-Some.is ∙ is.0))
