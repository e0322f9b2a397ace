use Rattle.std.proofs.Common.{◌≡◌, drop}
use Rattle.bor_wire.specs.Spelling.Parts.{skip_spaces}
use Rattle.bor_wire.proofs.spelling.token.without_spaces.Given as goal

abbrev pub invariant-loop-i : goal.invariant-loop-i
invariant-loop-i l = skip_spaces (drop l.i l.bytes) ≡ skip_spaces l.bytes
