use Rattle.bor_store_reads.proofs.Reading.{read_after, read_fails}
use Rattle.bor_store_reads.proofs.tables.read_whole.Goals as goal

pub returns-in_err-whole-clause-reads : goal.returns-in_err-whole-clause-reads
returns-in_err-whole-clause-reads g c =
    read_fails c.from_residual-in_err-whole.ensures.1 (read_after c.in_ok-has_more.ensures.reads.reads c.in_ok-has_more.ensures.reads.up c.in_err-whole.ensures.reads)
