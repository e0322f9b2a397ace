use Rattle.bor_store_reads.proofs.Reading.{read_after, read_fails}
use Rattle.bor_store_reads.proofs.successors.any_followed.Goals as goal

pub returns-in_err-is_followed : goal.returns-in_err-is_followed
returns-in_err-is_followed g c = read_fails c.from_residual.ensures.1 (read_after c.loop-row.invariant.reads c.loop-row.invariant.up c.in_err-is_followed.ensures)
