use Rattle.std.proofs.Common.{take}
use Rattle.bor_register.specs.Memory.Indexed.{IsGrown}
use Rattle.bor_register.proofs.memory.index.Index.with_filing.Given as goal

-- the statements so far
abbrev pub invariant-loop-i : goal.invariant-loop-i
invariant-loop-i l = IsGrown l.agent l.filing 0 (take l.i l.statements) l.initial.index l.index
