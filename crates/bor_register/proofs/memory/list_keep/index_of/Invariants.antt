use Rattle.std.proofs.Common.{take}
use Rattle.bor_register.specs.Memory.Indexed.{IsIndex}
use Rattle.bor_register.proofs.memory.list_keep.index_of.Given as goal

-- the maps of the members so far
abbrev pub invariant-loop-member : goal.invariant-loop-member
invariant-loop-member l = IsIndex (take l.member-index l.members) l.index
