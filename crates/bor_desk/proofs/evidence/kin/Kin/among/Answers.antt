use Rattle.std.proofs.Common.{◌<◌, ◌++◌, ◌∷◌, [], List, length, take, sym, ap, subst, ◌∙◌, arith}
use Rattle.std.proofs.lemmas.List.{take_more}
use Rattle.bor_records.proofs.KeptLaws.{kept_then, lasts_then}
use Rattle.bor_records.specs.declared.links.node.Node.{Node}
use Rattle.bor_register.specs.Seen.{seen_at}
use Rattle.bor_desk.specs.Kin.{AreKin, NoneFound}
use Rattle.bor_desk.proofs.evidence.kin.Kin.among.Goals as goal

pub loop-node-preserved : goal.loop-node-preserved
loop-node-preserved g c =
    let keep = g.K.Keep in
    let inv = c.loop-node.invariant in
    let asked = c.in_ok-add_open.ensures in
    let nodes = c.args.nodes.now in
    let at = c.loop-node.node-index in
    let node = c.node-item.result in
    let lt : at < length nodes = omega arith in
    let more = take_more nodes at node lt ∙ ap (λ (x : Node). take at nodes ++ x ∷ []) (sym c.node-item.is) in
    record {
      kept = kept_then keep.meaning _ _ _ inv.kept asked.kept;
      lasts = lasts_then keep.meaning _ _ _ inv.lasts asked.accounted.lasts;
      counts = asked.accounted.counted ∙ inv.counts;
      kin = λ r is clean.
          let began = asked.kept.began clean in
          subst (λ (ns : List Node). AreKin (seen_at c.args.viewer.now c.args.day r) ns NoneFound c.add_open.new.self) (sym more)
          (asked.answer r ((inv.kept.same began r).0 is) clean (take at nodes) (inv.kin r is began));
    }
