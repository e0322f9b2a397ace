use Rattle.std.specs.BTreeMap.{get}
use Rattle.bor_records.specs.Links.Nodes.{node_cmp}
use Rattle.bor_desk.proofs.OnEvidence.Ways.{goals_put}
use Rattle.bor_desk.proofs.evidence.same.Goals.put.Goals as goal

pub returns : goal.returns
returns c = λ s known to.
    goals_put s (λ x. get node_cmp c.args.self.now.ways x) (λ x. get node_cmp c.insert.new.self x) c.args.goal c.args.ways c.in_ok-insert.ensures.updates.0 known to
