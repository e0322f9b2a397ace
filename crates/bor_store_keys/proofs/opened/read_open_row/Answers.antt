use Rattle.std.proofs.Common.{ap, ◌∙◌}
use Rattle.bor_records.specs.Links.Series.{open_at}
use Rattle.bor_store_reads.proofs.Reading.{read_as, read_next}
use Rattle.bor_store_keys.specs.Viewed.{rows_seen}
use Rattle.bor_store_keys.specs.declared.view.View.{View}
use Rattle.bor_store_keys.proofs.opened.read_open_row.Goals as goal

pub returns : goal.returns
returns g c = read_as (read_next c.in_ok-view.ensures c.open_row.ensures)
    (λ r row stored is. is.1 ∙ ap (λ (view : View). open_at view.day c.args.node.now (rows_seen view r)) is.0)
