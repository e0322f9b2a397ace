use Rattle.std.proofs.Common.{take, Ok}
use Rattle.bor_records.specs.Reading.{ReadsSo}
use Rattle.bor_records.specs.Links.Candidates.{IsFoundIn}
use Rattle.bor_records.specs.Links.Growth.{Grown}
use Rattle.bor_records.proofs.links.search.add_signed.Given as goal

-- those of the candidates so far are added
abbrev pub invariant-loop-candidate : goal.invariant-loop-candidate
invariant-loop-candidate g l = ReadsSo g.R.Records.reading l.fn.records l.records (Ok l.class)
    (λ m class. Grown (IsFoundIn (g.R.Records.shown m) l.sign (take l.candidate-index l.candidates)) l.initial.class class)
