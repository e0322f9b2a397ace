use Rattle.std.proofs.Common.{◌<◌, ◌∙◌, Some, arith, length, refl}
use Rattle.bor_records.proofs.KeptLaws.{kept_then, lasts_then}
use Rattle.bor_register.specs.Rows.{visible}
use Rattle.bor_desk.proofs.OnEvidence.Mentions.{IsTold, records_more, told_closed, told_open}
use Rattle.bor_register.specs.declared.fault.StoreFault.{StoreFault}
use Rattle.bor_desk.proofs.OnOperations.Stops.{stops_after}
use Rattle.bor_desk.proofs.evidence.seen.records_seen.Goals as goal
use Rattle.bor_desk.proofs.evidence.seen.records_seen.Goals.{in-Some, in_default}

pub loop-node-preserved : goal.loop-node-preserved
loop-node-preserved g c =
    let inv = c.loop-node.invariant in
    let keep = g.K.Keep in
    let reads = c.in_ok-row.ensures in
    let was = c.loop-node.records in
    let now = c.match-branch-3.records in
    let lt : c.loop-node.node-index < length c.args.nodes.now = omega arith in
    let more : IsTold c.in_ok-row.field-0 was now =
    elim c.match-branch-3.branch [
      | in-Some w ↦
          told_open c.in_ok-row.field-0 w.in-Some.row w.record_line.result was w.push_reserved.new.self now w.in-Some.is w.record_line.ensures w.push_reserved.ensures.items w.push_reserved.ensures.capacity w.records-is
      | in_default w ↦ told_closed c.in_ok-row.field-0 was now w.in_default.is w.records-is
    ] in
    record {
      kept = kept_then keep.meaning _ _ _ inv.kept reads.kept;
      lasts = lasts_then keep.meaning _ _ _ inv.lasts reads.lasts;
      counted = reads.counts ∙ inv.counted;
      count = omega (arith, more.few);
      room = omega (arith, more.room);
      told = λ r is clean.
          let clean0 = reads.kept.began clean in
          let is0 = (inv.kept.same clean0 r).0 is in
          records_more c.args.day (visible c.args.viewer.now r.day r.members) c.args.nodes.now c.loop-node.node-index c.node-item.result c.in_ok-row.field-0 was now lt c.node-item.is (reads.answer r is0 clean) (inv.told r is clean0) more;
    }

pub returns-in_err-row-clause-accounted : goal.returns-in_err-row-clause-accounted
returns-in_err-row-clause-accounted g c =
    stops_after g.K.Keep.meaning (λ (f : StoreFault). Some f) _ _ _ c.from_residual-in_err-row.result c.loop-node.invariant.kept c.loop-node.invariant.counted c.from_residual-in_err-row.ensures.1 refl c.in_err-row.ensures
