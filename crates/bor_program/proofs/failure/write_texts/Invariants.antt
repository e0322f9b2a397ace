use Rattle.std.proofs.Common.{map, drop}
use Rattle.bor_program.specs.Failures.{texts_joined}
use Rattle.bor_program.proofs.KnownBytes.{IsWritten}
use Rattle.bor_program.proofs.failure.write_texts.Given as goal

abbrev pub invariant-loop-text : goal.invariant-loop-text
invariant-loop-text g l = IsWritten (g.E.Write.contents l.fn.errors) (g.E.Write.contents l.errors) (texts_joined (map (λ text. text.now) l.texts))
    (texts_joined (map (λ text. text.now) (drop l.text-index l.texts)))
