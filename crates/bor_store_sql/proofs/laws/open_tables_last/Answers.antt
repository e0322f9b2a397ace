use Rattle.std.proofs.Common.{sym}
use Rattle.bor_store_sql.proofs.Ending.{stands_in, state}
use Rattle.bor_store_sql.proofs.laws.open_tables_last.Goals as goal

pub returns : goal.returns
returns g c h clean r shows trees left = stands_in r (state g.S.Store h).committed trees (sym (g.met.S.Store.settled h.store trees clean.1 left)) (shows.has, shows.stored)
