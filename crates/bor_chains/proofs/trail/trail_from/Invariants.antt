use Rattle.std.proofs.Common.{◌≡◌, ◌≤◌, ◌-◌, ◌^◌, ℕ, length}
use Rattle.bor_records.specs.Promises.{Kept, StaysClean, Promised}
use Rattle.bor_chains.specs.Trail.{IsAtLevel}
use Rattle.bor_chains.proofs.trail.trail_from.Given as goal

-- the links into the marks before `start` are crossed, and those from there on are of one level
abbrev pub invariant-loop-start : goal.invariant-loop-start
invariant-loop-start g l =
    let source = g.S.LinkSource in
    record {
      within : l.start ≤ length l.trail.marks;
      same_reference : source.lender l.source ≡ source.lender l.fn.source;
      kept : Kept source.meaning l.fn.source l.source;
      lasts : StaysClean source.meaning l.fn.source l.source;
      counts : source.meaning.fault_count l.source ≡ source.meaning.fault_count l.fn.source;
      walked : Promised source.meaning l.fn.source l.source (λ m. (level : ℕ) × IsAtLevel (source.shown m) l.target l.start level l.trail);
    }

-- a list in memory has fewer than 2 ^ 64 elements
abbrev pub decreases-loop-start : goal.decreases-loop-start
decreases-loop-start g l = 2 ^ 64 - l.start
