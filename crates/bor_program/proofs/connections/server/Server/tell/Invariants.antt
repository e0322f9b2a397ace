use Rattle.std.proofs.Common.{◌≡◌, ◌++◌, List, length}
use Rattle.std.specs.Vec.Iter.{into_iter_items, into_iter_len}
use Rattle.bor_program.specs.declared.log.Note.{Note}
use Rattle.bor_program.specs.Connections.Watching.{AreTold}
use Rattle.bor_program.proofs.connections.server.Server.tell.Given as goal

-- some of the notes are told, and the others are left
abbrev pub invariant-loop-note : goal.invariant-loop-note
invariant-loop-note g l =
    (into_iter_len l.note-iterator ≡ length (into_iter_items l.note-iterator))
    × ((told : List Note) × (told ++ into_iter_items l.note-iterator ≡ l.fn.self.service.notes.items) × AreTold g.W.Watch.does l.fn.watch told l.watch)
