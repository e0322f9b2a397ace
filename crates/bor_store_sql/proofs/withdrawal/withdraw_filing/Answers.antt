use Rattle.std.proofs.Common.{rules}
use Rattle.bor_store_sql.specs.Rows.Encoding.{contents}
use Rattle.bor_store_sql.proofs.Contents.{once, now_has, still_stored}
use Rattle.bor_store_sql.proofs.Ending.{alters, ended}
use Rattle.bor_store_sql.proofs.withdrawal.withdraw_filing.Goals as goal

pub returns : goal.returns
returns g c =
    let agent = c.args.agent.now in
    let number = c.args.number in
    alters (ended g.S.Store c.args.conn.now c.finish.new.tx.0 c.conn-1.given.0 c.transaction-tx.ensures.begun c.withdraw_rows-done.ensures.steps c.withdraw_rows-done.ensures.ran_open c.finish.ensures.ends c.finish.ensures.mode (c.is_autocommit.ensures.settled (search rules)) (search rules) (search rules))
    (λ r shows fits db makes. (now_has agent number r db shows.stored (makes (contents r) shows.has (once agent number r.members shows.stored.ordered shows.stored.numbered)), still_stored agent number r shows.stored))
