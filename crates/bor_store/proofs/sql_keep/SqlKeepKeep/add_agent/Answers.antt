use Rattle.std.proofs.Common.{ap}
use Rattle.sqlite.specs.Held.{state}
use Rattle.bor_register.specs.Additions.{MayEnrol}
use Rattle.bor_store.proofs.Telling.{changes_where}
use Rattle.bor_store.proofs.sql_keep.SqlKeepKeep.add_agent.Goals as goal

pub returns : goal.returns
returns g c =
    changes_where (λ k. state g.S.Store k.conn) (λ k. k.faults) (ap (state g.S.Store) c.connection.ensures.value) (ap (state g.S.Store) c.made.ensures.conn) c.made.ensures.told c.made.ensures.counts c.add_agent-made.ensures
    (MayEnrol c.args.agent.now c.args.token.now) (λ r fits. fits.new_name)
