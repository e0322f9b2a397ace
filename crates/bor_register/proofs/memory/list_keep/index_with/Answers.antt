use Rattle.bor_register.proofs.OnMemory.Maps.{index_filed_more, index_none_filed}
use Rattle.bor_register.proofs.memory.list_keep.index_with.Goals as goal

pub loop-i-init : goal.loop-i-init
loop-i-init c = λ ms on none h. index_none_filed c.args.agent.now ms c.args.old none h

pub loop-i-preserved : goal.loop-i-preserved
loop-i-preserved c = λ ms on none h.
    index_filed_more c.args.agent.now c.args.filings.now c.loop-i.i c.index-filings-i.result c.as_slice.result.now ms c.loop-i.index c.in_ok-index.index c.loop-i-test.true c.index-filings-i.is c.as_slice.ensures on
    (c.loop-i.invariant ms on none h) c.in_ok-index.ensures
