use Rattle.std.proofs.Common.{◌≡◌, ◌++◌, take, drop}
use Rattle.bor_register.specs.Withdrawal.{with_withdrawn}
use Rattle.bor_register.proofs.withdrawal.withdraw_from.Given as goal

-- nothing is changed so far, and the filing isn't among those so far
abbrev pub invariant-loop-i : goal.invariant-loop-i
invariant-loop-i l = record {
  same : l.filings ≡ l.fn.filings;
  rest : with_withdrawn l.number l.filings ≡ take l.i l.filings ++ with_withdrawn l.number (drop l.i l.filings);
}
