use Rattle.std.proofs.Common.{◌≡◌, ◌++◌, ℕ, take, drop, List}
use Rattle.bor_register.specs.Register.{is_enrolled, filings_of, with_filings, with_token}
use Rattle.bor_register.specs.declared.filing.AcceptedFiling.{AcceptedFiling}
use Rattle.bor_register.proofs.member.position.Given as goal

-- what is left gives what all give
abbrev pub invariant-loop-i : goal.invariant-loop-i
invariant-loop-i l = record {
  enrolled : is_enrolled l.name (drop l.i l.members) ≡ is_enrolled l.name l.members;
  own : filings_of l.name (drop l.i l.members) ≡ filings_of l.name l.members;
  written : (fs : List AcceptedFiling) → with_filings l.name fs l.members ≡ take l.i l.members ++ with_filings l.name fs (drop l.i l.members);
  renewed : (token : List ℕ) → with_token l.name token l.members ≡ take l.i l.members ++ with_token l.name token (drop l.i l.members);
}
