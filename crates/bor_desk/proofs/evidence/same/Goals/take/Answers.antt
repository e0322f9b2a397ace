use Rattle.std.proofs.Common.{sym}
use Rattle.bor_records.proofs.OnLinks.Exact.{exact_node}
use Rattle.bor_desk.proofs.evidence.same.Goals.take.Goals as goal

pub returns-in-Some-clause-goal : goal.returns-in-Some-clause-goal
returns-in-Some-clause-goal c = sym (exact_node c.args.goal.now c.in-Some.taken.0 c.in-Some.ensures.same_key)
