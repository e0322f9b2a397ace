use Rattle.std.proofs.Common.{◌≡◌, ◌++◌, drop, map}
use Rattle.bor_records.specs.Links.Signs.{by_identifier}
use Rattle.bor_records.proofs.links.sign.push_signs.Given as goal

-- the signs so far and those of what is left are all
abbrev pub invariant-loop-identifier : goal.invariant-loop-identifier
invariant-loop-identifier l = l.signs.items ++ map by_identifier (drop l.identifier-index l.identifiers) ≡ l.initial.signs.items ++ map by_identifier l.identifiers
