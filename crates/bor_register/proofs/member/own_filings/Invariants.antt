use Rattle.std.proofs.Common.{◌≡◌, drop}
use Rattle.bor_register.specs.Register.{filings_of}
use Rattle.bor_register.proofs.member.own_filings.Given as goal

-- what is left gives what all give
abbrev pub invariant-loop-member : goal.invariant-loop-member
invariant-loop-member l = filings_of l.name (drop l.member-index l.members) ≡ filings_of l.name l.members
