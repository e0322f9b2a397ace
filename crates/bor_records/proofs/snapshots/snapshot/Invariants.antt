use Rattle.std.proofs.Common.{◌≡◌, ◌++◌}
use Rattle.bor_records.proofs.OpenRecords.{shown}
use Rattle.bor_records.proofs.snapshots.snapshot.Given as goal

-- what is there and what is left show what all show
abbrev pub invariant-loop-row : goal.invariant-loop-row
invariant-loop-row l = l.entries.items ++ shown l.row-iterator ≡ shown l.initial.row-iterator
