use Rattle.std.proofs.Common.{◌≡◌, ◌++◌, take, drop}
use Rattle.bor_register.specs.Register.{with_member}
use Rattle.bor_register.specs.declared.member.Member.{Member}
use Rattle.bor_register.proofs.member.place_for.Given as goal

-- the members so far stand before the new one
abbrev pub invariant-loop-i : goal.invariant-loop-i
invariant-loop-i l = (new : Member) → new.name ≡ l.name → with_member new l.members ≡ take l.i l.members ++ with_member new (drop l.i l.members)
