use Rattle.std.proofs.Common.{rules, ◌≡◌, Ok, sym, ap, subst, ◌∙◌}
use Rattle.std.specs.Prelude.{◌≢◌}
use Rattle.std.proofs.lemmas.Result.{err_from_is_err_and}
use Rattle.bor_register.specs.declared.filing.State.{State}
use Rattle.bor_register.specs.declared.filing.State.TheVariants.{Withdrawn}
use Rattle.bor_desk.specs.Operations.Legality.{IsLegal}
use Rattle.bor_desk.proofs.OnOperations.Refusals.{again_left, draft-left, refused_withdrawal-outcome}
use Rattle.bor_desk.proofs.OnOperations.Legality.{withdrawal-stays_legal}
use Rattle.bor_desk.proofs.operations.withdrawal.withdraw.Goals as goal

pub returns-in_err-line-clause-step : goal.returns-in_err-line-clause-step
returns-in_err-line-clause-step g c = λ r is clean.
    let p = err_from_is_err_and c.from_residual.result c.from_residual.ensures.1 in
    let kept = (c.in_err-line.ensures.kept.same clean r).0 is in
    rw (p.1, p.2) (refused_withdrawal-outcome (g.K.Keep.meaning.shows c.withdrawable.new.keep) r c.args.agent.now c.args.key.now c.in_err-line.field-0.0 (c.in_err-line.ensures.answer r is clean) kept)

pub returns-then-eq-clause-step : goal.returns-then-eq-clause-step
returns-then-eq-clause-step g c = λ r is clean.
    let kept = (c.in_ok-line.ensures.kept.same clean r).0 is in
    let state : c.in_ok-line.line.state ≡ Withdrawn = search rules in
    let left = again_left r c.args.agent.now c.args.key.now c.in_ok-line.line (c.in_ok-line.ensures.found r is clean) state in
    (c.in_ok-line.ensures.answer r is clean ∙ ap (λ (s : State). Ok (record c.in_ok-line.line { state = s })) (sym state), subst (g.K.Keep.meaning.shows c.withdrawable.new.keep) (sym left) kept)

pub returns-clause-legal : goal.returns-clause-legal
returns-clause-legal g c = λ r is clean2 legal.
    let clean1 = c.in_ok-withdraw.ensures.leaves.began clean2 in
    let kept = (c.in_ok-line.ensures.kept.same clean1 r).0 is in
    let other : c.in_ok-line.line.state ≢ Withdrawn = search rules in
    let left = draft-left r c.args.agent.now c.args.key.now c.in_ok-line.line _ (c.in_ok-line.ensures.found r is clean1) other (c.in_ok-line.ensures.answer r is clean1) in
    (_, c.in_ok-withdraw.ensures.changed r kept clean2, subst IsLegal left (withdrawal-stays_legal r c.args.agent.now c.args.key.now legal))
