use Rattle.std.proofs.Common.{All, take}
use Rattle.bods_read.specs.Forms.{IsFormedStatement}
use Rattle.bor_store.proofs.forms.all_formed.Given as goal

abbrev pub invariant-loop-statement : goal.invariant-loop-statement
invariant-loop-statement l = All IsFormedStatement (take l.statement-index l.statements)
