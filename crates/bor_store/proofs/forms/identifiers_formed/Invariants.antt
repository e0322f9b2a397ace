use Rattle.std.proofs.Common.{All, take}
use Rattle.bods_read.specs.Forms.{IsFormedIdentifier}
use Rattle.bor_store.proofs.forms.identifiers_formed.Given as goal

abbrev pub invariant-loop-identifier : goal.invariant-loop-identifier
invariant-loop-identifier l = All IsFormedIdentifier (take l.identifier-index l.identifiers)
