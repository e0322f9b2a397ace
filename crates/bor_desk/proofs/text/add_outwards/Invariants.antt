use Rattle.std.proofs.Common.{◌≡◌, ◌++◌, drop, string_bytes}
use Rattle.bor_desk.specs.Texts.{outward_lines}
use Rattle.bor_desk.proofs.text.add_outwards.Given as goal

-- what is there and what is left give what all give
abbrev pub invariant-loop-outward : goal.invariant-loop-outward
invariant-loop-outward l = string_bytes l.text ++ outward_lines (drop l.outward-index l.outwards) ≡ string_bytes l.fn.text ++ outward_lines l.outwards
