use Rattle.bor_store_sql.proofs.Selecting.{last_of_series_found, finds}
use Rattle.bor_store_sql.proofs.keyed.last_of_series.Goals as goal

pub returns : goal.returns
returns g c = finds c.query.ensures c.three_texts.ensures (last_of_series_found c.args.agent.now c.args.declaration.now c.args.rec.now)
