use Rattle.bor_records.proofs.OnLinks.OfRows.{links_by_record}
use Rattle.bor_records.proofs.links.laws.links_are_known_by_record.Goals as goal

pub returns : goal.returns
returns c = links_by_record
