use Rattle.std.proofs.Common.{take}
use Rattle.bor_register.specs.Register.{IsOrdered}
use Rattle.bor_register.proofs.memory.list_keep.are_ordered.Given as goal

-- the members so far go up
abbrev pub invariant-loop-i : goal.invariant-loop-i
invariant-loop-i l = IsOrdered (take l.i l.members)
