use Rattle.std.proofs.Common.{◌≡◌, drop}
use Rattle.bor_register.specs.Register.{filing_keyed}
use Rattle.bor_register.proofs.filings.filing_with.Given as goal

-- what is left gives what all give
abbrev pub invariant-loop-filing : goal.invariant-loop-filing
invariant-loop-filing l = filing_keyed l.key (drop l.filing-index l.filings) ≡ filing_keyed l.key l.filings
