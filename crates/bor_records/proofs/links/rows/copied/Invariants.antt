use Rattle.std.proofs.Common.{◌≡◌, ◌++◌, drop}
use Rattle.bor_records.proofs.links.rows.copied.Given as goal

-- what is copied and what is left are the whole
abbrev pub invariant-loop-identifier : goal.invariant-loop-identifier
invariant-loop-identifier l = l.copied.items ++ drop l.identifier-index l.identifiers ≡ l.identifiers
