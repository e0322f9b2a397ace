-- The files of a register that a stop leaves.
use Rattle.sqlite.specs.Files.{file_state}
use Rattle.sqlite.specs.Held.{Held}
use Rattle.sqlite.specs.Held.{IsConnected as IsKept}
use Rattle.sqlite.specs.State.{HasCleanDisk}
use Rattle.sqlite_disk.specs.declared.Disk.{Ghosts as Disk}
use Rattle.sqlite_store.specs.FileStore.{recovers, state, view}
use Rattle.sqlite_store.specs.declared.store.FileStore.{FileStore}
use Rattle.sqlite_trees.specs.Tree.{Trees}
use Rattle.sqlite_wal.specs.Recovery.{Image}
use Rattle.bor_register.specs.Register.{Register}
use Rattle.bor_store_sql.specs.Shown.{Stands}
use Rattle.bor_store.specs.Opening.{HoldsRegister}

-- Two files that a stop may leave of a connection, of which holds what `sqlite` keeps true of each,
-- on a disk that has returned what was written: they have trees that `may_leave` names, and hold
-- each register for which these stand.
abbrev pub StopsLeaveRegisters : {D : Type 0} → Disk D → Type 0
StopsLeaveRegisters {D} g =
    (c : Held (FileStore D g))
    → IsKept (view c.store) (recovers c.store) c.schema c.saved c.in_transaction
    → HasCleanDisk (file_state c) →
    (image : Image) → (state c.store).may_leave image
    → ∥ ((trees : Trees) × (file_state c).may_leave trees
    × ((r : Register) → Stands r trees → HoldsRegister image r)) ∥₁
