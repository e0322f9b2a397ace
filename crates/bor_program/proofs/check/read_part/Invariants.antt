use Rattle.std.proofs.Common.{◌≤◌, length}
use Rattle.std.specs.Io.KnownBytes.{Consumes}
use Rattle.bor_program.proofs.check.read_part.Given as goal

abbrev pub invariant-turns : goal.invariant-turns
invariant-turns g l = (length l.bytes.items ≤ 1_048_577)
    × Consumes (g.I.Read.remaining l.initial.input) (g.I.Read.remaining l.input) l.bytes.items
