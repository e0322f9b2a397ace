use Rattle.std.proofs.Common.{◌∙◌, sym}
use Rattle.bor_register.proofs.OnMemory.Maps.{ordered_more, ordered_one}
use Rattle.bor_register.proofs.memory.list_keep.are_ordered.Goals as goal

pub loop-i-init : goal.loop-i-init
loop-i-init c = ordered_one c.args.members.now

pub loop-i-preserved : goal.loop-i-preserved
loop-i-preserved c =
    ordered_more c.args.members.now c.loop-i.i c.index-members-i.result c.index-members-i-in-loop-i.result c.loop-i.auto.i c.loop-i-test.true c.index-members-i.is c.index-members-i-in-loop-i.is
    (sym c.is_before.ensures ∙ c.if-not-is_before.false) c.loop-i.invariant
