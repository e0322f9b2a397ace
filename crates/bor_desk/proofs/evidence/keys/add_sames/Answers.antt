use Rattle.std.proofs.Common.{Contains, List, arith, subst}
use Rattle.bor_records.specs.declared.links.node.Node.{Node}
use Rattle.bor_desk.specs.Mentioned.{IsGained, nodes_in}
use Rattle.bor_desk.proofs.OnEvidence.Keyed.{gained_more}
use Rattle.bor_desk.proofs.evidence.keys.add_sames.Goals as goal

pub loop-line-preserved : goal.loop-line-preserved
loop-line-preserved c =
    gained_more c.args.links.now (λ line n. Contains line.same n) c.loop-line.line-index c.line-item.result (nodes_in c.args.keys.now) (nodes_in c.loop-line.keys) (nodes_in c.add_all.new.keys) (omega arith) c.line-item.is c.loop-line.invariant
    (subst (λ (ns : List Node). IsGained (λ n. Contains ns n) (nodes_in c.loop-line.keys) (nodes_in c.add_all.new.keys)) c.as_slice.ensures c.in_ok-add_all.ensures)
