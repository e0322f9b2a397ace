use Rattle.std.proofs.Common.{subst, rules}
use Rattle.bor_terms.specs.Day.{IsDay}
use Rattle.bor_store_sql.specs.Rows.Encoding.{contents}
use Rattle.bor_store_sql.proofs.Changes.{one_register, dated_has, dated_stored}
use Rattle.bor_store_sql.proofs.Ending.{alters, ended}
use Rattle.bor_store_sql.proofs.register.set_day.Goals as goal

pub returns : goal.returns
returns g c =
    let day = c.args.day in
    let is = subst IsDay c.number-known.ensures.value c.number-known.ensures.within in
    alters (ended g.S.Store c.args.conn.now c.finish.new.tx.0 c.conn-1.given.0 c.transaction-tx.ensures.begun c.update_day-done.ensures.steps c.update_day-done.ensures.ran_open c.finish.ensures.ends c.finish.ensures.mode (c.is_autocommit.ensures.settled (search rules)) (search rules) (search rules))
    (λ r shows fits db makes. (dated_has day r db (makes (contents r) shows.has (one_register day r)), dated_stored day r is shows.stored))
