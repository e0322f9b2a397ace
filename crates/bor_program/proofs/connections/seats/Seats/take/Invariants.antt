use Rattle.std.proofs.Common.{◌≡◌, take, count_by}
use Rattle.bor_program.proofs.connections.seats.Seats.take.Given as goal

-- all places before this one are taken
abbrev pub invariant-loop-place : goal.invariant-loop-place
invariant-loop-place l = record {
  same : l.self ≡ l.fn.self;
  taken : count_by (λ taken. taken) (take l.place l.fn.self.taken) ≡ l.place;
}
