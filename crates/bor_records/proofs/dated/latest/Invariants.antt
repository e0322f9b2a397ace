use Rattle.std.proofs.Common.{◌≡◌, take, option_and_then, slice_get}
use Rattle.bor_records.specs.Snapshot.{latest, latest_place}
use Rattle.bor_records.proofs.dated.latest.Given as goal

-- the latest row so far, and its place
abbrev pub invariant-loop-i : goal.invariant-loop-i
invariant-loop-i l = record {
  place : l.last ≡ latest_place l.day (take l.i l.rows);
  row : option_and_then (slice_get l.rows) l.last ≡ latest l.day (take l.i l.rows);
}
