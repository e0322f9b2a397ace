use Rattle.std.proofs.Common.{ℕ, length, refl, subst, arith}
use Rattle.std.specs.BTreeMap.{get}
use Rattle.std.proofs.lemmas.Option.{slice_get_read}
use Rattle.bor_records.specs.Links.Nodes.{node_cmp}
use Rattle.bor_desk.specs.Ways.{AreFoundFrom}
use Rattle.bor_desk.proofs.OnEvidence.Ways.{found_kin}
use Rattle.bor_desk.proofs.evidence.ways.found_from.Goals as goal

pub loop-node-preserved : goal.loop-node-preserved
loop-node-preserved c = λ s target class of.
    found_kin s target c.args.level.now c.loop-node.node-index c.node-item.result c.in_ok-near.near.items c.loop-node.kin c.take_near.new.self
    (λ x. get node_cmp c.args.after.now x) (λ x. get node_cmp c.loop-node.after x) (λ x. get node_cmp c.add_new.new.after x) c.loop-node.found.items c.add_new.new.found.items
    (slice_get_read c.args.level.now (length c.args.level.now) c.loop-node.node-index c.node-item.result refl (omega arith) c.node-item.is)
    class c.take_near.ensures.same c.in_ok-near.ensures.taken c.in_ok-add_new.ensures (c.loop-node.invariant s target class of)

pub returns : goal.returns
returns c = λ s target class of.
    let all = c.loop-node.invariant s target class of in (
      subst (λ (n : ℕ). AreFoundFrom s c.args.level.now n (λ x. get node_cmp c.args.after.now x) (λ x. get node_cmp c.loop-node.after x) c.loop-node.found.items) (omega arith) all.0,
      all.1,
    )
