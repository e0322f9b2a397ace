use Rattle.std.proofs.Common.{◌≡◌, Bool, false, Contains, length}
use Rattle.bor_chains.proofs.branches.none_of.Given as goal

-- so far
abbrev pub invariant-loop : goal.invariant-loop
invariant-loop l = record { long : length l.list.items ≡ l.counter; all : (x : Bool) → Contains l.list.items x → x ≡ false }
