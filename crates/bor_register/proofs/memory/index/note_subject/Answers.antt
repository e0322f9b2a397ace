use Rattle.bor_records.proofs.OnLinks.Exact.{exact_node}
use Rattle.bor_register.proofs.memory.index.note_subject.Goals as goal

pub returns : goal.returns
returns c = rw c.in_ok-subjects.ensures at (c.in_ok-note.ensures exact_node)
