use Rattle.sqlite.specs.Held.{state}
use Rattle.bor_records.proofs.OnLinks.Series.{nodes_distinct}
use Rattle.bor_store_reads.proofs.Reading.{read_as}
use Rattle.bor_store_keys.specs.Viewed.{rows_seen}
use Rattle.bor_store_keys.proofs.Holding.{read_noted, read_seen}
use Rattle.bor_store_keys.proofs.identified.identified_in.Goals as goal

pub returns : goal.returns
returns g c =
    let view = c.args.view.now in
    read_noted (state g.S.Store) (c.lookup-1.given.1 c.identified.ensures.leads.0)
    (read_as (read_seen _ c.identified.ensures.leads.2 c.identified.ensures.lasts c.identified.ensures.answer) (λ r nodes stored h. h (nodes_distinct view.day (rows_seen view r))))
