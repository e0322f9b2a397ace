use Rattle.bor_store_sql.proofs.Selecting.{more_statements_found, finds}
use Rattle.bor_store_sql.proofs.reads.more_statements.Goals as goal

pub returns : goal.returns
returns g c = finds c.query.ensures c.one_number.ensures (more_statements_found c.args.count)
