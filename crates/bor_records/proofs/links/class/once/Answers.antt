use Rattle.bor_records.proofs.OnLinks.InOrder.{once_same, once_distinct}
use Rattle.bor_records.proofs.links.class.once.Goals as goal

pub returns-clause-same : goal.returns-clause-same
returns-clause-same c = once_same c.args.nodes.items c.sort.new.self.items c.dedup.new.self.items c.in_ok-sort.ensures.permutation c.dedup.ensures.filtered

pub returns-clause-distinct : goal.returns-clause-distinct
returns-clause-distinct c = once_distinct c.sort.new.self.items c.dedup.new.self.items c.in_ok-sort.ensures.sorted c.dedup.ensures.filtered
