use Rattle.std.proofs.Common.{[], take}
use Rattle.bor_records.specs.Links.Signs.{sign_cmp}
use Rattle.bor_desk.specs.Kin.{AreTaken}
use Rattle.bor_records.specs.Links.Values.{under}
use Rattle.bor_desk.proofs.evidence.kin.take_all.Given as goal

-- by the signs so far
abbrev pub invariant-loop-sign : goal.invariant-loop-sign
invariant-loop-sign l = AreTaken (take l.sign-index l.signs) (under sign_cmp l.initial.signed) (under sign_cmp l.signed) [] l.taken.items
