use Rattle.bor_store_sql.proofs.Selecting.{identifiers_by_id_found, finds}
use Rattle.bor_store_sql.proofs.records.identifiers_by_id.Goals as goal

pub returns : goal.returns
returns g c = finds c.query.ensures c.two_texts.ensures (identifiers_by_id_found c.args.scheme.now c.args.id.now)
