use Rattle.std.proofs.Common.{refl}
use Rattle.bor_register.proofs.OnMemory.Maps.{index_joined_more}
use Rattle.bor_register.proofs.memory.list_keep.index_of.Goals as goal

pub loop-member-preserved : goal.loop-member-preserved
loop-member-preserved c =
    index_joined_more c.args.members.now c.loop-member.member-index c.member-item.result c.member-item.result.name c.as_slice.result.now c.loop-member.index c.in_ok-index.index c.loop-member-test.true c.member-item.is refl c.as_slice.ensures c.requires
    c.loop-member.invariant c.in_ok-index.ensures
