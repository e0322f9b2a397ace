use Rattle.std.proofs.Common.{◌≡◌, map, take}
use Rattle.bor_register.specs.Publication.{line_of}
use Rattle.bor_register.proofs.filings.all_lines.Given as goal

abbrev pub invariant-loop-filing : goal.invariant-loop-filing
invariant-loop-filing l = l.lines.items ≡ map (line_of l.day) (take l.filing-index l.filings)
