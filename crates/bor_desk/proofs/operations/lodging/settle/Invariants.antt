use Rattle.std.proofs.Common.{◌≡◌, map, take}
use Rattle.bor_records.specs.Settling.{as_live, settled}
use Rattle.bor_register.specs.Register.{filings_of}
use Rattle.bor_register.specs.Live.{live_of}
use Rattle.bor_records.specs.Promises.{Kept, StaysClean, Promised}
use Rattle.bor_desk.specs.Operations.Earlier.{AreFound}
use Rattle.bor_desk.proofs.OnOperations.Lodgings.{so_far}
use Rattle.bor_desk.proofs.operations.lodging.settle.Given as goal

-- those before are found, and what is left gives, behind what is settled, what all give
abbrev pub invariant-loop-i : goal.invariant-loop-i
invariant-loop-i g l =
    let keep = g.K.Keep in
    record {
      kept : Kept keep.meaning l.fn.keep l.keep;
      lasts : StaysClean keep.meaning l.fn.keep l.keep;
      counted : keep.meaning.fault_count l.keep ≡ keep.meaning.fault_count l.fn.keep;
      found : AreFound (map (as_live l.due) (take l.i l.statements)) l.earlier;
      done : Promised keep.meaning l.fn.keep l.keep (λ r.
          so_far (live_of (filings_of l.agent r.members)) l.due l.statements l.i ≡ settled (live_of (filings_of l.agent r.members)) l.due l.fn.statements);
    }
