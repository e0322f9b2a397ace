use Rattle.std.proofs.Common.{◌≡◌, take}
use Rattle.bor_register.proofs.statements.copied.Given as goal

abbrev pub invariant-loop-statement : goal.invariant-loop-statement
invariant-loop-statement l = l.copied.items ≡ take l.statement-index l.statements
