use Rattle.std.proofs.Common.{ap, subst}
use Rattle.sqlite.specs.Held.{state}
use Rattle.bor_store_sql.specs.Changing.{withdrawn}
use Rattle.bor_store_sql.specs.Shown.{Alters, Always}
use Rattle.bor_store.proofs.Telling.{changes}
use Rattle.bor_store.proofs.sql_keep.SqlKeepKeep.withdraw.Goals as goal

pub returns : goal.returns
returns g c =
    let alters = subst (λ agent. Alters g.S.Store c.connection.result.now c.withdraw_filing-made.new.conn c.withdraw_filing-made.result Always (withdrawn agent c.args.number)) c.as_str.ensures.value c.withdraw_filing-made.ensures in
    changes (λ k. state g.S.Store k.conn) (λ k. k.faults) (ap (state g.S.Store) c.connection.ensures.value) (ap (state g.S.Store) c.made.ensures.conn) c.made.ensures.told c.made.ensures.counts alters
    (λ r. tt {0})
