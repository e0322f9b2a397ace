use Rattle.bor_records.proofs.OnLinks.ByKey.{links_by_candidates}
use Rattle.bor_records.proofs.links.laws.links_are_read_by_candidates.Goals as goal

pub returns : goal.returns
returns c = links_by_candidates
