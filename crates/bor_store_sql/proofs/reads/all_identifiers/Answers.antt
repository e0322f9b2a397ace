use Rattle.std.proofs.Common.{refl}
use Rattle.bor_store_sql.proofs.Selecting.{all_identifiers_found, finds}
use Rattle.bor_store_sql.proofs.reads.all_identifiers.Goals as goal

pub returns : goal.returns
returns g c = finds c.query.ensures refl all_identifiers_found
