use Rattle.std.proofs.Common.{rules}
use Rattle.bor_store_sql.specs.Rows.Encoding.{tables_version}
use Rattle.bor_store_sql.specs.Shown.{first_contents}
use Rattle.bor_store_sql.proofs.Changes.{moved_has, one_version}
use Rattle.bor_store_sql.proofs.Ending.{alters, ended}
use Rattle.bor_store_sql.proofs.moving.move_tables.Goals as goal

pub returns : goal.returns
returns g c =
    alters (ended g.S.Store c.args.conn.now c.finish.new.tx.0 c.conn-1.given.0 c.transaction-tx.ensures.begun c.move_rows-done.ensures.moves c.move_rows-done.ensures.ran_open c.finish.ensures.ends c.finish.ensures.mode (c.is_autocommit.ensures.settled (search rules)) (search rules) (search rules))
    (λ r shows given db makes. (moved_has c.args.periods.now r db given (makes (first_contents r) (one_version tables_version r) shows.has), shows.stored))
