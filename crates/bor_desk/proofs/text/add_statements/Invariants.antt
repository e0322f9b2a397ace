use Rattle.std.proofs.Common.{◌≡◌, ◌+◌, ◌++◌, drop, string_bytes}
use Rattle.bor_desk.specs.Texts.{filing_statement_lines}
use Rattle.bor_desk.proofs.text.add_statements.Given as goal

-- what is there and what is left give what all give
abbrev pub invariant-loop-i : goal.invariant-loop-i
invariant-loop-i l = string_bytes l.text ++ filing_statement_lines (l.i + 1) (drop l.i l.statements) ≡ string_bytes l.fn.text ++ filing_statement_lines 1 l.statements
