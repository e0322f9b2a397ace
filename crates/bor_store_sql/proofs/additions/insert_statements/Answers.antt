use Rattle.std.proofs.Common.{◌≡◌, ◌+◌, Ok, ap, subst, ◌∙◌, take_all}
use Rattle.std.proofs.lemmas.List.Elements.{All-more}
use Rattle.bor_store_sql.specs.declared.rows.places.At.{At}
use Rattle.bor_store_sql.specs.Fitting.{standing}
use Rattle.bor_store_sql.specs.Changing.{Any, in_turn, with_one_placed}
use Rattle.bor_store_sql.specs.Shown.{StepsTo}
use Rattle.bor_store_sql.specs.Rows.Stored.{IsCounted}
use Rattle.bor_store_sql.proofs.Lists.{next_in_turn}
use Rattle.bor_store_sql.proofs.Moves.{fails, one_more, state, then_fails}
use Rattle.bor_store_sql.proofs.additions.insert_statements.Goals as goal

pub loop-statement-preserved : goal.loop-statement-preserved
loop-statement-preserved g c =
    let it = c.loop-statement.invariant in
    let i = c.loop-statement.statement-index in
    let agent = c.args.filing.agent in
    let number = c.args.filing.number in
    let s = c.statement-item.result in
    let n = c.in_ok-at.field-0 in
    let place : n ≡ i + 1 = c.in_ok-at.ensures.value ∙ ap (λ (a : At). a.place + 1) it.at in
    let at = ap (λ (a : At). record a { place = n }) it.at in
    record {
      same_reference = c.in_ok-insert_placed.ensures.same_reference ∙ it.same_reference;
      at = at ∙ ap (λ k. record { agent = agent; filing = number; place = k }) place;
      within = c.in_ok-at.ensures.within;
      steps = one_more (next_in_turn (λ k x. with_one_placed (standing agent number k x)) i n c.args.statements.now s c.loop-statement-test.true c.statement-item.is place) it.steps
          (subst (λ a. StepsTo Any (with_one_placed (record { at = a; statement = s })) (state g.S.Store c.loop-statement.tx.conn.now) (state g.S.Store c.insert_placed.new.tx.conn.now) (Ok (tt {0}))) at c.in_ok-insert_placed.ensures.steps);
      each = All-more IsCounted c.args.statements.now i s c.loop-statement-test.true it.each (subst IsCounted c.statement-item.is c.in_ok-insert_placed.ensures.counted);
    }

pub returns-clause-steps : goal.returns-clause-steps
returns-clause-steps g c =
    subst (λ xs. StepsTo Any (in_turn (λ k x. with_one_placed (standing c.args.filing.agent c.args.filing.number k x)) 1 xs) (state g.S.Store c.args.tx.now.conn.now) (state g.S.Store c.loop-statement.tx.conn.now) (Ok (tt {0})))
    (take_all c.loop-statement.statement-index c.args.statements.now c.loop-statement-test.false) c.loop-statement.invariant.steps

pub returns-in_err-at-clause-steps : goal.returns-in_err-at-clause-steps
returns-in_err-at-clause-steps g c = fails c.from_residual.ensures.0 c.loop-statement.invariant.steps

pub returns-in_err-insert_placed-clause-steps : goal.returns-in_err-insert_placed-clause-steps
returns-in_err-insert_placed-clause-steps g c = then_fails c.from_residual-in_err-insert_placed.ensures.0 c.loop-statement.invariant.steps c.in_err-insert_placed.ensures.steps
