use Rattle.std.proofs.Common.{◌≡◌, ℕ, List, take}
use Rattle.bor_records.specs.Found.{found_at}
use Rattle.bor_records.specs.Snapshot.{latest, record_rows}
use Rattle.bor_records.proofs.snapshots.latest_rows.Given as goal

-- the latest of each record among the rows so far
abbrev pub invariant-loop-row : goal.invariant-loop-row
invariant-loop-row l = (rec : List ℕ) → found_at l.found rec ≡ latest l.day (record_rows l.declaration rec (take l.row-index l.rows))
