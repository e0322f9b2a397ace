use Rattle.bor_store_sql.proofs.Selecting.{periods_of_statement_found, finds}
use Rattle.bor_store_sql.proofs.keyed.periods_of_statement.Goals as goal

pub returns : goal.returns
returns g c = finds c.query.ensures c.statement_key.ensures (periods_of_statement_found c.args.at.now)
