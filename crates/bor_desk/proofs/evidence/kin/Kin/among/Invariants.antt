use Rattle.std.proofs.Common.{◌≡◌, take}
use Rattle.bor_records.specs.Promises.{Kept, StaysClean, Promised}
use Rattle.bor_register.specs.Seen.{seen_at}
use Rattle.bor_desk.specs.Kin.{AreKin, NoneFound}
use Rattle.bor_desk.proofs.evidence.kin.Kin.among.Given as goal

-- those so far
abbrev pub invariant-loop-node : goal.invariant-loop-node
invariant-loop-node g l =
    let keep = g.K.Keep in
    record {
      kept : Kept keep.meaning l.initial.keep l.keep;
      lasts : StaysClean keep.meaning l.initial.keep l.keep;
      counts : keep.meaning.fault_count l.keep ≡ keep.meaning.fault_count l.initial.keep;
      kin : Promised keep.meaning l.initial.keep l.keep (λ r. AreKin (seen_at l.viewer l.day r) (take l.node-index l.nodes) NoneFound l.kin);
    }
