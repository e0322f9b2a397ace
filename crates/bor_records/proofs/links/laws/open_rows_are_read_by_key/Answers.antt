use Rattle.bor_records.proofs.OnLinks.ByKey.{open_by_key}
use Rattle.bor_records.proofs.links.laws.open_rows_are_read_by_key.Goals as goal

pub returns : goal.returns
returns c = open_by_key
