use Rattle.std.proofs.Common.{◌≡◌, ◌++◌, drop}
use Rattle.bor_register.specs.Publication.{published}
use Rattle.bor_register.proofs.publication.all_published.Given as goal

-- what is there and what is left give what all give
abbrev pub invariant-loop-member : goal.invariant-loop-member
invariant-loop-member l = l.outwards.items ++ published l.day (drop l.member-index l.members) ≡ published l.day l.members
