use Rattle.std.proofs.Common.{◌<◌, ◌++◌, ◌∷◌, [], length, take, Some, refl, sym, ap, ◌∙◌, arith}
use Rattle.std.proofs.lemmas.List.{take_more}
use Rattle.bor_records.proofs.KeptLaws.{kept_then, lasts_then}
use Rattle.bor_register.specs.Seen.{seen_at}
use Rattle.bor_chains.specs.declared.tree.EvidenceLink.{EvidenceLink}
use Rattle.bor_desk.proofs.OnEvidence.Mentions.{links_more}
use Rattle.bor_register.specs.declared.fault.StoreFault.{StoreFault}
use Rattle.bor_desk.proofs.OnOperations.Stops.{stops_later}
use Rattle.bor_desk.proofs.evidence.seen.link_lines.Goals as goal

pub loop-line-preserved : goal.loop-line-preserved
loop-line-preserved g c =
    let keep = g.K.Keep in
    let inv = c.loop-line.invariant in
    let asked = c.in_ok-told.ensures in
    let links = c.args.links.now in
    let at = c.loop-line.line-index in
    let line = c.line-item.result in
    let lt : at < length links = omega arith in
    let pushed = c.push_reserved.ensures in
    record {
      kept = kept_then keep.meaning _ _ _ inv.kept asked.kept;
      lasts = lasts_then keep.meaning _ _ _ inv.lasts asked.accounted.lasts;
      counts = asked.accounted.counted ∙ inv.counts;
      count = omega (arith, pushed.len, inv.count);
      room = omega (arith, pushed.capacity, inv.room);
      told = λ r is clean all.
          let began = asked.kept.began clean in
          let so_far = inv.told r is began all in
          let one = asked.answer r ((inv.kept.same began r).0 is) clean so_far.0 (all line (at, lt, sym c.line-item.is)) in (
            one.0,
            links_more (seen_at c.args.viewer.now c.args.day r) c.args.entity.now links at c.loop-line.lines.items c.push_reserved.new.self.items line c.in_ok-told.told
                (take_more links at line lt ∙ ap (λ (x : EvidenceLink). take at links ++ x ∷ []) (sym c.line-item.is)) pushed.items so_far.1 one.1,
          );
    }

pub returns-in_err-told-clause-accounted : goal.returns-in_err-told-clause-accounted
returns-in_err-told-clause-accounted g c =
    let inv = c.loop-line.invariant in
    stops_later g.K.Keep.meaning (λ (f : StoreFault). Some f) _ _ _ c.from_residual-in_err-told.result inv.kept inv.counts inv.lasts c.in_err-told.ensures.kept.began c.from_residual-in_err-told.ensures.1 refl c.in_err-told.ensures.accounted
