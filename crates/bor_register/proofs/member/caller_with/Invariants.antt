use Rattle.std.proofs.Common.{◌≡◌, drop}
use Rattle.bor_register.specs.Register.{agent_with}
use Rattle.bor_register.proofs.member.caller_with.Given as goal

-- what is left gives what all give
abbrev pub invariant-loop-member : goal.invariant-loop-member
invariant-loop-member l = agent_with l.token (drop l.member-index l.members) ≡ agent_with l.token l.members
