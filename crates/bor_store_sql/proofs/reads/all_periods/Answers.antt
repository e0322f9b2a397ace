use Rattle.std.proofs.Common.{refl}
use Rattle.bor_store_sql.proofs.Selecting.{all_periods_found, finds}
use Rattle.bor_store_sql.proofs.reads.all_periods.Goals as goal

pub returns : goal.returns
returns g c = finds c.query.ensures refl all_periods_found
