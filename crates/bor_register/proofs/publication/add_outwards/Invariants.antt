use Rattle.std.proofs.Common.{◌≡◌, ◌++◌, drop}
use Rattle.bor_register.specs.Publication.{outwards_of}
use Rattle.bor_register.proofs.publication.add_outwards.Given as goal

-- what is there and what is left give what all give
abbrev pub invariant-loop-filing : goal.invariant-loop-filing
invariant-loop-filing l = l.outwards.items ++ outwards_of l.day l.name (drop l.filing-index l.filings) ≡ l.fn.outwards.items ++ outwards_of l.day l.name l.filings
