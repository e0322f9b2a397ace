use Rattle.std.proofs.Common.{ap}
use Rattle.sqlite.specs.Held.{state}
use Rattle.bor_store.proofs.Telling.{reads_told}
use Rattle.bor_store.proofs.sql_keep.SqlKeepKeep.links_into.Goals as goal

pub returns : goal.returns
returns g c = reads_told (λ k. state g.S.Store k.conn) (λ k. k.faults) c.read_links_into-answer.ensures (ap (state g.S.Store) c.told.ensures.conn) c.told.ensures.told c.told.ensures.counts
