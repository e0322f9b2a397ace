use Rattle.std.proofs.Common.{refl}
use Rattle.bor_store_keys.proofs.OpenAt.{found_last, passed_last}
use Rattle.bor_store_keys.proofs.latest.last_told.Goals as goal

pub returns-then-branch : goal.returns-then-branch
returns-then-branch g c = found_last _ _ _ _ c.loop-row.invariant c.in_ok-is_told.ensures c.deref.ensures.value c.deref.ensures.len c.in-Some.ensures.value c.pop.ensures.items c.pop.ensures.value c.if-branch.true

pub loop-row-preserved : goal.loop-row-preserved
loop-row-preserved g c = passed_last _ _ _ _ c.loop-row.invariant c.in_ok-is_told.ensures c.deref.ensures.value c.deref.ensures.len c.in-Some.ensures.value c.pop-in-Some.ensures.items c.pop-in-Some.ensures.value refl c.if-branch.false
