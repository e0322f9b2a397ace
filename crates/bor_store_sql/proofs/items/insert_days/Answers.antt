use Rattle.std.proofs.Common.{sym, subst, ◌∙◌}
use Rattle.bor_store_sql.specs.Rows.Placed.{period_of}
use Rattle.bor_store_sql.specs.Shown.{Has}
use Rattle.bor_store_sql.specs.declared.rows.typed.InterestRow.{InterestRow}
use Rattle.bor_store_sql.proofs.Changes.{period_put, moves_by}
use Rattle.bor_store_sql.proofs.Lists.{one_said}
use Rattle.bor_store_sql.proofs.items.insert_days.Goals as goal

pub returns-clause-steps : goal.returns-clause-steps
returns-clause-steps g c =
    let i : InterestRow = record { at = c.args.at.now; item = c.args.number; interest = c.args.interest.now } in
    moves_by c.run.ensures.ran c.period_values-days.ensures (λ old new count h t has fit. subst (λ x. Has x new.now) (one_said i (sym c.has_days.ensures ∙ c.if-not-has_days.false) t) (period_put (period_of i) old new count h t has fit))
