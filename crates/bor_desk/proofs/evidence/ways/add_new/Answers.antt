use Rattle.std.proofs.Common.{◌∷◌, []}
use Rattle.std.specs.BTreeMap.{get}
use Rattle.bor_records.specs.Links.Nodes.{node_cmp}
use Rattle.bor_desk.proofs.OnEvidence.Ways.{added_more}
use Rattle.bor_desk.proofs.evidence.ways.add_new.Goals as goal

pub loop-alias-preserved : goal.loop-alias-preserved
loop-alias-preserved c =
    added_more c.args.node.now c.loop-alias.yielded (c.in-Some.alias ∷ []) (λ x. get node_cmp c.args.after.now x) (λ x. get node_cmp c.loop-alias.after x) (λ x. get node_cmp c.add.new.after x)
    c.args.found.now.items c.loop-alias.found.items c.add.new.found.items c.loop-alias.invariant c.in_ok-add.ensures
