use Rattle.std.proofs.Common.{◌≤◌, ◌<◌, ℕ, get_or}
use Rattle.bor_program.specs.Connections.Servers.{idle_times}
use Rattle.bor_program.proofs.connections.server.longest_idle.Given as goal

abbrev pub invariant-loop-place : goal.invariant-loop-place
invariant-loop-place g l = record {
  before : l.longest < l.place;
  longest : (other : ℕ) → other < l.place → get_or (idle_times l.fn.queue.items) l.longest 0 ≤ get_or (idle_times l.fn.queue.items) other 0;
}
