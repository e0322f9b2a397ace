use Rattle.std.proofs.Common.{arith}
use Rattle.bor_desk.specs.Mentioned.{IsOfLink, nodes_in}
use Rattle.bor_desk.proofs.OnEvidence.Keyed.{gained_more}
use Rattle.bor_desk.proofs.evidence.keys.add_links.Goals as goal

pub loop-line-preserved : goal.loop-line-preserved
loop-line-preserved c =
    gained_more c.args.links.now IsOfLink c.loop-line.line-index c.line-item.result (nodes_in c.args.keys.now) (nodes_in c.loop-line.keys) (nodes_in c.add_link.new.keys) (omega arith) c.line-item.is c.loop-line.invariant
    c.in_ok-add_link.ensures
