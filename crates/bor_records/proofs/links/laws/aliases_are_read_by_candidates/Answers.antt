use Rattle.bor_records.proofs.OnLinks.ByKey.{aliases_by_candidates}
use Rattle.bor_records.proofs.links.laws.aliases_are_read_by_candidates.Goals as goal

pub returns : goal.returns
returns c = aliases_by_candidates
