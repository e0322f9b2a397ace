use Rattle.bor_records.proofs.OnLinks.ByKey.{alias_by_key}
use Rattle.bor_records.proofs.links.laws.aliases_are_read_by_key.Goals as goal

pub returns : goal.returns
returns c = alias_by_key
