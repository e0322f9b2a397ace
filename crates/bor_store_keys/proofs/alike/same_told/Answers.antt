use Rattle.sqlite.specs.Held.{state}
use Rattle.bor_store_reads.proofs.Reading.{read_after}
use Rattle.bor_store_keys.proofs.Holding.{read_listed, read_noted}
use Rattle.bor_store_keys.proofs.alike.same_told.Goals as goal

pub returns-in-Some : goal.returns-in-Some
returns-in-Some g c = read_listed (state g.S.Store) (read_noted (state g.S.Store) c.take_lists.ensures.kept c.in_ok-list_where_many.ensures) c.same_listed.ensures.kept c.same_listed.ensures.answer

pub returns-in-None : goal.returns-in-None
returns-in-None g c =
    let many = read_noted (state g.S.Store) c.take_lists.ensures.kept c.in_ok-list_where_many.ensures in
    read_after many.reads many.up c.same_in.ensures
