use Rattle.std.proofs.Common.{ap, ℕ, ◌+◌}
use Rattle.sqlite.specs.Held.{state}
use Rattle.bor_register.specs.Additions.{MayFile}
use Rattle.bor_store.proofs.Telling.{changes_where}
use Rattle.bor_store.proofs.sql_keep.SqlKeepKeep.add_filing.Goals as goal

pub returns : goal.returns
returns g c =
    changes_where (λ k. state g.S.Store k.conn) (λ k. k.faults) (ap (state g.S.Store) c.connection.ensures.value) (ap (state g.S.Store) c.made.ensures.conn) c.made.ensures.told c.made.ensures.counts c.add_next_filing-made.ensures.altered
    (MayFile c.args.agent.now c.args.count c.args.key.now c.args.statements.now)
    (λ r fits. record { enrolled = fits.enrolled; room = fits.room; next = ap (λ (n : ℕ). n + 1) fits.counted; formed = c.add_next_filing-made.ensures.formed })
