use Rattle.std.proofs.Common.{◌≡◌, ◌≤◌, None, length, take}
use Rattle.std.specs.List.{filter, last_or}
use Rattle.bor_register.specs.Memory.Sited.{is_told, passes, sited_at}
use Rattle.bor_register.proofs.memory.sight.last_told.Given as goal

-- the last one is among those that are left
abbrev pub invariant-loop-next : goal.invariant-loop-next
invariant-loop-next l = record {
  within : l.next ≤ length l.places;
  left : last_or None (filter (λ p. passes (is_told l.sight.viewer.now l.sight.today l.sight.day l.agent) (sited_at l.filings p)) l.places)
      ≡ last_or None (filter (λ p. passes (is_told l.sight.viewer.now l.sight.today l.sight.day l.agent) (sited_at l.filings p)) (take l.next l.places));
}

abbrev pub decreases-loop-next : goal.decreases-loop-next
decreases-loop-next l = l.next
