use Rattle.std.proofs.Common.{◌≡◌, ◌≤◌, length, take, vec_capacity}
use Rattle.bor_records.specs.Promises.{Kept, StaysClean, Promised}
use Rattle.bor_register.specs.Seen.{seen_at}
use Rattle.bor_desk.specs.Evidence.{AreLinkEvidence}
use Rattle.bor_desk.specs.Ways.{AreGoals, AreLinked}
use Rattle.bor_desk.proofs.evidence.seen.link_lines.Given as goal

-- the links so far, and what was found of the goals
abbrev pub invariant-loop-line : goal.invariant-loop-line
invariant-loop-line g l =
    let keep = g.K.Keep in
    record {
      kept : Kept keep.meaning l.initial.keep l.keep;
      lasts : StaysClean keep.meaning l.initial.keep l.keep;
      counts : keep.meaning.fault_count l.keep ≡ keep.meaning.fault_count l.initial.keep;
      count : length l.lines.items ≡ l.line-index;
      room : length l.links ≤ vec_capacity l.lines;
      told : Promised keep.meaning l.initial.keep l.keep
          (λ r. AreLinked (seen_at l.viewer l.day r) l.entity l.links → AreGoals (seen_at l.viewer l.day r) l.goals × AreLinkEvidence (seen_at l.viewer l.day r) l.entity (take l.line-index l.links) l.lines.items);
    }
