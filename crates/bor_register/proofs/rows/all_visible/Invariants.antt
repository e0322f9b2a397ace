use Rattle.std.proofs.Common.{◌≡◌, ◌++◌, drop}
use Rattle.bor_register.specs.Rows.{visible}
use Rattle.bor_register.proofs.rows.all_visible.Given as goal

-- what is there and what is left give what all give
abbrev pub invariant-loop-member : goal.invariant-loop-member
invariant-loop-member l = l.rows.items ++ visible l.viewer l.day (drop l.member-index l.members) ≡ visible l.viewer l.day l.members
