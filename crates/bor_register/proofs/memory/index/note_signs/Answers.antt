use Rattle.bor_records.proofs.OnLinks.Exact.{exact_sign}
use Rattle.bor_register.proofs.memory.index.note_signs.Goals as goal

pub returns : goal.returns
returns c = rw c.in_ok-signs.ensures at (c.in_ok-note.ensures exact_sign)
