use Rattle.std.proofs.Common.{◌≡◌, map, take}
use Rattle.bor_register.specs.Publication.{agent_line}
use Rattle.bor_register.proofs.agents.all_agents.Given as goal

abbrev pub invariant-loop-member : goal.invariant-loop-member
invariant-loop-member l = l.lines.items ≡ map (agent_line l.day) (take l.member-index l.members)
