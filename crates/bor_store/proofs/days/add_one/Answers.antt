use Rattle.std.proofs.Common.{ℕ, List, [], ◌∷◌, ◌++◌, append-nil, sym, ap, ◌∙◌}
use Rattle.bor_store_sql.specs.declared.rows.typed.InterestRow.{InterestRow}
use Rattle.bor_store_sql.specs.declared.rows.typed.PeriodRow.{PeriodRow}
use Rattle.bor_store_sql.proofs.Lists.{said_none, said_one}
use Rattle.bor_store.proofs.days.add_one.Goals as goal

pub returns-then-not-has_days-clause-added : goal.returns-then-not-has_days-clause-added
returns-then-not-has_days-clause-added c =
    let i : InterestRow = record { at = record { agent = c.args.agent.now; filing = c.args.filing; place = c.args.place }; item = c.args.item; interest = c.args.interest.now } in
    sym (append-nil c.args.rows.now.items) ∙ ap (λ l. c.args.rows.now.items ++ l) (sym (said_none i i.interest.starts i.interest.ends (sym c.has_days.ensures ∙ c.if-not-has_days.true)))

pub returns-clause-added : goal.returns-clause-added
returns-clause-added c =
    let i : InterestRow = record { at = record { agent = c.args.agent.now; filing = c.args.filing; place = c.args.place }; item = c.args.item; interest = c.args.interest.now } in
    let row : List ℕ → PeriodRow = λ agent. record { at = record { agent = agent; filing = c.args.filing; place = c.args.place }; item = c.args.item; starts = c.args.interest.now.starts; ends = c.args.interest.now.ends } in
    c.in_ok-push.ensures.items ∙ ap (λ agent. c.args.rows.now.items ++ row agent ∷ []) c.in_ok-agent.ensures
    ∙ ap (λ l. c.args.rows.now.items ++ l) (sym (said_one i i.interest.starts i.interest.ends (sym c.has_days.ensures ∙ c.if-not-has_days.false)))
