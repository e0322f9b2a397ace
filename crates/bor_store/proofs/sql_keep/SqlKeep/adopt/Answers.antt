use Rattle.sqlite.specs.Held.{state}
use Rattle.bor_store_sql.proofs.OneRegister.{one_shown}
use Rattle.bor_store.proofs.Judging.{taken_is}
use Rattle.bor_store.proofs.sql_keep.SqlKeep.adopt.Goals as goal

pub returns-in-Ok-clause-one : goal.returns-in-Ok-clause-one
returns-in-Ok-clause-one g c r q shows too = one_shown r q _ shows too

pub returns-in-Ok-clause-is : goal.returns-in-Ok-clause-is
returns-in-Ok-clause-is g c clean =
    rw c.new.ensures
    (let ended = rw c.new.ensures at clean in
    taken_is (state g.S.Store c.args.conn) (state g.S.Store c.examine.new.conn) _ (c.in-Ok.ensures.same ended) (c.in-Ok.ensures.up ended) (c.in-Ok.ensures.judged ended))
