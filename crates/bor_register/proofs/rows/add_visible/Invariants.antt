use Rattle.std.proofs.Common.{◌≡◌, ◌++◌, drop, option_map}
use Rattle.bor_register.specs.Rows.{asked_rows, visible_in}
use Rattle.bor_register.proofs.rows.add_visible.Given as goal

-- what is there and what is left give what all give
abbrev pub invariant-loop-filing : goal.invariant-loop-filing
invariant-loop-filing l =
    l.rows.items ++ asked_rows (option_map (λ d. d.now) l.declaration) (visible_in l.viewer l.day l.agent (drop l.filing-index l.filings))
    ≡ l.fn.rows.items ++ asked_rows (option_map (λ d. d.now) l.declaration) (visible_in l.viewer l.day l.agent l.filings)
