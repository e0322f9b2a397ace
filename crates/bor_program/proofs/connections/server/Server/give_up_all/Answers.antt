use Rattle.std.proofs.Common.{arith, refl, ◌∙◌}
use Rattle.bor_program.proofs.OnConnections.Servers.{lets_same, lets_then}
use Rattle.bor_program.proofs.connections.server.Server.give_up_all.Goals as goal

pub loop-init : goal.loop-init
loop-init g c = record { lets = lets_same _ c.args.self.now c.requires; left = refl; notes = refl; count = omega arith }

pub loop-preserved : goal.loop-preserved
loop-preserved g c = record {
  lets = lets_then _ _ _ 0 0 _ c.loop.self c.give_up_first.new.self c.loop.invariant.lets c.give_up_first.ensures.lets;
  left = c.give_up_first.ensures.left ∙ c.loop.invariant.left;
  notes = c.give_up_first.ensures.notes ∙ c.loop.invariant.notes;
  count = omega (arith, c.give_up_first.ensures.fewer, c.loop.invariant.count);
}
