use Rattle.bor_store_sql.proofs.Selecting.{identifiers_of_statement_found, finds}
use Rattle.bor_store_sql.proofs.keyed.identifiers_of_statement.Goals as goal

pub returns : goal.returns
returns g c = finds c.query.ensures c.statement_key.ensures (identifiers_of_statement_found c.args.at.now)
