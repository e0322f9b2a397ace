use Rattle.std.proofs.Common.{◌≡◌, take}
use Rattle.bods_read.proofs.details.copy_identifiers.Given as goal

abbrev pub invariant-loop-identifier : goal.invariant-loop-identifier
invariant-loop-identifier l = l.copied.items ≡ take l.identifier-index l.identifiers
