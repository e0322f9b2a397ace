use Rattle.bor_store_reads.proofs.Lists.{all_read, more_read, none_read}
use Rattle.bor_store_sql.proofs.Finding.{read_on}
use Rattle.bor_store_reads.proofs.Reading.{read_after, read_fails, read_wants}
use Rattle.bor_store_reads.proofs.declarations.interests_of.Goals as goal

pub loop-row-init : goal.loop-row-init
loop-row-init g c = none_read c.new-interests.ensures.items

pub loop-row-preserved : goal.loop-row-preserved
loop-row-preserved g c = more_read _ _ c.loop-row.invariant c.in_ok-own.ensures c.loop-row-test.true c.row-item.is c.in_ok-append.ensures.items

pub returns : goal.returns
returns g c = all_read _ _ c.loop-row.invariant c.loop-row-test.false

pub returns-in_err-own : goal.returns-in_err-own
returns-in_err-own g c = read_fails c.from_residual.ensures.1 (read_after c.loop-row.invariant.reads c.loop-row.invariant.up c.in_err-own.ensures)

pub returns-in_err-append : goal.returns-in_err-append
returns-in_err-append g c = read_wants c.from_residual-in_err-append.ensures.1 (read_on c.loop-row.invariant.reads c.in_ok-own.ensures.reads)
