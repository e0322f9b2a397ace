use Rattle.std.proofs.Common.{◌≡◌, drop}
use Rattle.bor_register.specs.Withdrawal.{has_successor}
use Rattle.bor_register.proofs.memory.succession.has_successor.Given as goal

-- what is left gives what all give
abbrev pub invariant-loop-i : goal.invariant-loop-i
invariant-loop-i l = has_successor l.number (drop l.i l.filings) ≡ has_successor l.number l.filings
