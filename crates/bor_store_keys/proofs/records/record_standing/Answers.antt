use Rattle.std.proofs.Common.{sym}
use Rattle.bor_store_reads.proofs.Reading.{read_before}
use Rattle.bor_store_keys.proofs.records.record_standing.Goals as goal

pub returns-in-Some : goal.returns-in-Some
returns-in-Some g c = read_before (λ clean r shows. sym (c.in_ok-node.ensures c.in-Some.node c.in-Some.is clean r shows))

pub returns-in-None : goal.returns-in-None
returns-in-None g c = c.record_read.ensures
