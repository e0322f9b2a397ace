use Rattle.std.proofs.Common.{◌≡◌, ◌++◌, option_map}
use Rattle.bor_register.specs.Rows.{rows_from, asked_rows}
use Rattle.bor_register.proofs.SeenRows.{rows_left}
use Rattle.bor_register.proofs.rows.add_rows.Given as goal

-- what is there and what is left give what all give
abbrev pub invariant-loop-i : goal.invariant-loop-i
invariant-loop-i l =
    l.rows.items ++ rows_left (option_map (λ d. d.now) l.declaration) l.agent l.filing.number l.filing.statements l.i
    ≡ l.fn.rows.items ++ asked_rows (option_map (λ d. d.now) l.declaration) (rows_from l.agent l.filing.number 1 l.filing.statements)
