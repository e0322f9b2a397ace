use Rattle.std.proofs.Common.{◌≡◌, ◌+◌, drop, map, length}
use Rattle.serde_json.specs.View.{view}
use Rattle.bods_read.specs.Outcome.{outcome, lines_from}
use Rattle.bods_read.specs.Statement.{statement_of}
use Rattle.bods_read.specs.File.{lines_at}
use Rattle.bods_read.proofs.Kept.{rest}
use Rattle.bods_read.proofs.file.each.Given as goal

abbrev pub invariant-loop-value : goal.invariant-loop-value
invariant-loop-value l = record {
  count : length l.statements.items ≡ l.value-index;
  places : l.place ≡ l.value-index + 1;
  read : outcome (lines_from lines_at 1 (map view l.values)) (map statement_of (map view l.values))
      ≡ rest view lines_at statement_of (l.value-index + 1) l.statements.items (drop l.value-index l.values);
}
