use Rattle.bor_desk.proofs.OnEvidence.Keyed.{gained_key}
use Rattle.bor_desk.proofs.evidence.keys.add.Goals as goal

pub returns : goal.returns
returns c = gained_key c.args.keys.now c.insert.new.self c.of.result c.args.node c.of.ensures c.in_ok-insert.ensures.updates.0 c.in_ok-insert.ensures.updates.1
