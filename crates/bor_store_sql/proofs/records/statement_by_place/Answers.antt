use Rattle.bor_store_sql.proofs.Selecting.{statement_by_place_found, finds}
use Rattle.bor_store_sql.proofs.records.statement_by_place.Goals as goal

pub returns : goal.returns
returns g c = finds c.query.ensures c.statement_key.ensures (statement_by_place_found c.args.at.now)
