use Rattle.std.proofs.Common.{◌≡◌, ◌≤◌, length}
use Rattle.bor_records.specs.Promises.{Kept, StaysClean, Promised}
use Rattle.bor_chains.specs.Trail.{AreBeside, AreWhole, FollowsTo}
use Rattle.bor_chains.proofs.trail.Trail.follow_all.Given as goal

-- the crossings so far are followed
abbrev pub invariant-loop-crossing : goal.invariant-loop-crossing
invariant-loop-crossing g l =
    let source = g.S.LinkSource in
    record {
      longer : length l.initial.self.marks ≤ length l.self.marks;
      same_reference : source.lender l.source ≡ source.lender l.initial.source;
      kept : Kept source.meaning l.initial.source l.source;
      lasts : StaysClean source.meaning l.initial.source l.source;
      counts : source.meaning.fault_count l.source ≡ source.meaning.fault_count l.initial.source;
      walked : Promised source.meaning l.initial.source l.source
          (λ m. AreBeside l.initial.self → AreWhole (source.shown m) l.initial.self.marks → AreWhole (source.shown m) l.self.marks × FollowsTo (source.shown m) l.yielded (length l.yielded) l.initial.self l.self);
    }
