use Rattle.std.proofs.Common.{◌≡◌, ◌≤◌, None, true, length, take}
use Rattle.std.specs.List.{filter, last_or}
use Rattle.bor_register.specs.Memory.Sited.{passes, sited_at}
use Rattle.bor_register.proofs.memory.standing.last_standing.Given as goal

-- the last one is among those that are left
abbrev pub invariant-loop-next : goal.invariant-loop-next
invariant-loop-next l = record {
  within : l.next ≤ length l.places;
  left : last_or None (filter (λ p. passes (λ x. true) (sited_at l.filings p)) l.places)
      ≡ last_or None (filter (λ p. passes (λ x. true) (sited_at l.filings p)) (take l.next l.places));
}

abbrev pub decreases-loop-next : goal.decreases-loop-next
decreases-loop-next l = l.next
