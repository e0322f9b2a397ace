use Rattle.std.proofs.Common.{◌≡◌, min, take}
use Rattle.bor_register.specs.Held.{statement_count}
use Rattle.bor_register.proofs.held.statement_count.Given as goal

abbrev pub invariant-loop-member : goal.invariant-loop-member
invariant-loop-member l = l.count ≡ min (statement_count (take l.member-index l.members)) 18446744073709551615
