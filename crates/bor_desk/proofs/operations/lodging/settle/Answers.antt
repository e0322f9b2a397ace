use Rattle.std.proofs.Common.{◌+◌, ◌<◌, length, map, take, get_or, refl, sym, subst, ◌∙◌, arith}
use Rattle.std.proofs.lemmas.Result.{err_from_is_err_and}
use Rattle.bor_records.specs.Settling.{as_live, as_settled}
use Rattle.bor_register.specs.Register.{filings_of}
use Rattle.bor_register.specs.Live.{live_of}
use Rattle.bor_desk.specs.Operations.Earlier.{AreFound}
use Rattle.bor_desk.specs.Operations.Lodging.{told_settled}
use Rattle.bor_desk.specs.Operations.Outcomes.{of_lodging, Refuses}
use Rattle.bor_records.proofs.KeptLaws.{kept_then, lasts_then}
use Rattle.bor_desk.proofs.OnOperations.Lodgings.{so_far-more, so_far-refused, live_so_far}
use Rattle.bor_desk.proofs.OnOperations.Stops.{stops_later}
use Rattle.bor_desk.proofs.operations.lodging.settle.Goals as goal

pub returns-in_err-status-clause-answer : goal.returns-in_err-status-clause-answer
returns-in_err-status-clause-answer g c = λ r is clean.
    let p = err_from_is_err_and c.from_residual-in_err-status.result c.from_residual-in_err-status.ensures.1 in
    let inv = c.loop-i.invariant in
    let e = c.in_err-status.field-0.0 in
    let clean0 = c.in_err-status.ensures.kept.began clean in
    let is0 = (inv.kept.same clean0 r).0 is in
    let lt : c.loop-i.i < length c.loop-i.statements = omega arith in
    let told = c.in_err-status.ensures.answer r is0 clean (map (as_live c.args.due) (take c.loop-i.i c.loop-i.statements)) inv.found in
    let refused = so_far-refused e (live_of (filings_of c.args.agent.now r.members)) c.args.due c.loop-i.statements c.loop-i.i (c.loop-i.i + 1) c.index-statements-i-in-loop-i.result lt refl told in
    rw (p.1, p.2) (subst (λ x. Refuses of_lodging e (told_settled x)) (inv.done r is clean0) refused)

pub loop-i-preserved : goal.loop-i-preserved
loop-i-preserved g c =
    let inv = c.loop-i.invariant in
    let keep = g.K.Keep in
    let ss = c.loop-i.statements in
    let lt : c.loop-i.i < length ss = omega arith in
    let next = as_settled c.in_ok-status.status (get_or ss c.loop-i.i c.index-statements-i-in-loop-i-2.result) in
    record {
      kept = kept_then keep.meaning _ _ _ inv.kept c.in_ok-status.ensures.kept;
      lasts = lasts_then keep.meaning _ _ _ inv.lasts c.in_ok-status.ensures.accounted.lasts;
      counted = c.in_ok-status.ensures.accounted.counted ∙ inv.counted;
      found = subst (λ live. AreFound live c.add.new.self) (live_so_far c.args.due ss c.loop-i.i next c.index-statements-i-in-loop-i-3.result lt)
          (c.in_ok-add.ensures (map (as_live c.args.due) (take c.loop-i.i ss)) inv.found);
      done = λ r is clean.
          let clean0 = c.in_ok-status.ensures.kept.began clean in
          let is0 = (inv.kept.same clean0 r).0 is in
          let told = c.in_ok-status.ensures.answer r is0 clean (map (as_live c.args.due) (take c.loop-i.i ss)) inv.found in
          sym (so_far-more (live_of (filings_of c.args.agent.now r.members)) c.args.due ss c.loop-i.i (c.loop-i.i + 1) c.index-statements-i-in-loop-i.result c.index-statements-i-in-loop-i-2.result c.in_ok-status.status lt told) ∙ inv.done r is clean0;
    }

pub returns-in_err-status-clause-accounted : goal.returns-in_err-status-clause-accounted
returns-in_err-status-clause-accounted g c =
    let inv = c.loop-i.invariant in
    stops_later g.K.Keep.meaning of_lodging _ _ _ c.from_residual-in_err-status.result inv.kept inv.counted inv.lasts c.in_err-status.ensures.kept.began c.from_residual-in_err-status.ensures.1 refl c.in_err-status.ensures.accounted
