use Rattle.bor_desk.specs.Mentioned.{records_at}
use Rattle.std.proofs.Common.{◌≡◌, ◌≤◌, length, take, vec_capacity}
use Rattle.bor_records.specs.Promises.{Kept, StaysClean, Promised}
use Rattle.bor_desk.specs.Operations.Sight.{seen_by}
use Rattle.bor_desk.proofs.evidence.seen.records_seen.Given as goal

-- the records so far are told, where they are open
abbrev pub invariant-loop-node : goal.invariant-loop-node
invariant-loop-node g l =
    let keep = g.K.Keep in
    record {
      kept : Kept keep.meaning l.fn.keep l.keep;
      lasts : StaysClean keep.meaning l.fn.keep l.keep;
      counted : keep.meaning.fault_count l.keep ≡ keep.meaning.fault_count l.fn.keep;
      count : length l.records.items ≤ l.node-index;
      room : length l.nodes ≤ vec_capacity l.records;
      told : Promised keep.meaning l.fn.keep l.keep (λ r. l.records.items ≡ records_at l.day (seen_by l.viewer r) (take l.node-index l.nodes));
    }
