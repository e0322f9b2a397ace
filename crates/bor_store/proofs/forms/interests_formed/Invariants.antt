use Rattle.std.proofs.Common.{All, take}
use Rattle.bods_read.specs.Forms.{IsFormedInterest}
use Rattle.bor_store.proofs.forms.interests_formed.Given as goal

abbrev pub invariant-loop-interest : goal.invariant-loop-interest
invariant-loop-interest l = All IsFormedInterest (take l.interest-index l.interests)
