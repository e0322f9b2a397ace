use Rattle.std.proofs.Common.{◌≡◌, min, take}
use Rattle.bor_register.specs.Held.{statement_total}
use Rattle.bor_register.proofs.held.statements_in.Given as goal

abbrev pub invariant-loop-filing : goal.invariant-loop-filing
invariant-loop-filing l = l.count ≡ min (statement_total (take l.filing-index l.filings)) 18446744073709551615
