use Rattle.bor_register.proofs.OnMemory.Indexed.{index_none}
use Rattle.bor_register.proofs.memory.index.Index.new.Goals as goal

pub returns : goal.returns
returns c = index_none _ c.new.ensures.empty c.new-2.ensures.empty
