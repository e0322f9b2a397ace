use Rattle.sqlite.specs.Held.{state}
use Rattle.bor_store_keys.proofs.Holding.{read_noted, read_seen}
use Rattle.bor_store_keys.proofs.alike.same_in.Goals as goal

pub returns : goal.returns
returns g c = read_noted (state g.S.Store) (c.lookup-1.given.1 c.same.ensures.leads.0) (read_seen _ c.same.ensures.leads.2 c.same.ensures.lasts c.same.ensures.answer)
