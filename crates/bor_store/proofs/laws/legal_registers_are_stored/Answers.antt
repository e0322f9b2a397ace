use Rattle.bor_store.proofs.Stored.{legal_are_stored}
use Rattle.bor_store.proofs.laws.legal_registers_are_stored.Goals as goal

pub returns : goal.returns
returns c = legal_are_stored
