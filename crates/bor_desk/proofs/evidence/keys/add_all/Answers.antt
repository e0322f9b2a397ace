use Rattle.std.proofs.Common.{Contains, List, arith, subst}
use Rattle.std.proofs.lemmas.List.{take_all}
use Rattle.bor_records.specs.declared.links.node.Node.{Node}
use Rattle.bor_desk.specs.Mentioned.{IsGained, nodes_in}
use Rattle.bor_desk.proofs.OnEvidence.Keyed.{gained_node}
use Rattle.bor_desk.proofs.evidence.keys.add_all.Goals as goal

pub loop-node-preserved : goal.loop-node-preserved
loop-node-preserved c =
    gained_node c.args.nodes.now c.loop-node.node-index c.node-item.result (nodes_in c.args.keys.now) (nodes_in c.loop-node.keys) (nodes_in c.add_copy.new.keys) (omega arith) c.node-item.is c.loop-node.invariant
    c.in_ok-add_copy.ensures

pub returns : goal.returns
returns c =
    subst (λ (xs : List Node). IsGained (λ n. Contains xs n) (nodes_in c.args.keys.now) (nodes_in c.loop-node.keys)) (take_all c.loop-node.node-index c.args.nodes.now (omega arith)) c.loop-node.invariant
