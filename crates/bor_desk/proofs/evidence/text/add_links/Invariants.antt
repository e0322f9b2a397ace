use Rattle.std.proofs.Common.{◌≡◌, ◌++◌, drop, string_bytes}
use Rattle.bor_desk.specs.ChainReport.{link_lines}
use Rattle.bor_desk.proofs.evidence.text.add_links.Given as goal

-- what is there and what is left give what all give
abbrev pub invariant-loop-line : goal.invariant-loop-line
invariant-loop-line l = string_bytes l.text ++ link_lines (drop l.line-index l.links) ≡ string_bytes l.fn.text ++ link_lines l.links
