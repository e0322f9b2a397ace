use Rattle.bor_wire.proofs.OnSpelling.Messages.{one_spelling}
use Rattle.bor_wire.proofs.spelling.laws.spells_one.Goals as goal

pub returns : goal.returns
returns c = one_spelling
