use Rattle.std.proofs.Common.{ap}
use Rattle.sqlite.specs.Held.{state}
use Rattle.bor_store.proofs.Telling.{changes}
use Rattle.bor_store.proofs.sql_keep.SqlKeepKeep.set_day.Goals as goal

pub returns : goal.returns
returns g c =
    changes (λ k. state g.S.Store k.conn) (λ k. k.faults) (ap (state g.S.Store) c.connection.ensures.value) (ap (state g.S.Store) c.made.ensures.conn) c.made.ensures.told c.made.ensures.counts c.set_day-made.ensures
    (λ r. tt {0})
