use Rattle.std.proofs.Common.{◌≡◌}
use Rattle.bor_records.specs.Promises.{Kept, StaysClean, Promised}
use Rattle.bor_chains.specs.Crossings.{AreCrossings}
use Rattle.bor_chains.proofs.crossed.crossings_from.Given as goal

-- the links into the marks so far are crossed
abbrev pub invariant-loop-place : goal.invariant-loop-place
invariant-loop-place g l =
    let source = g.S.LinkSource in
    record {
      same_reference : source.lender l.source ≡ source.lender l.initial.source;
      kept : Kept source.meaning l.initial.source l.source;
      lasts : StaysClean source.meaning l.initial.source l.source;
      counts : source.meaning.fault_count l.source ≡ source.meaning.fault_count l.initial.source;
      crossed : Promised source.meaning l.initial.source l.source (λ m. AreCrossings (source.shown m) l.marks l.start l.place l.crossings.items);
    }
