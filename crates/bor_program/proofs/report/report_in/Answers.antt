use Rattle.std.proofs.Common.{◌≡◌, ◌∙◌, Bool, Option, Some, None, ℤ, IfOk, refl, sym, subst, if◌then◌else◌, unwrap_or}
use Rattle.bor_register.specs.Register.{Register}
use Rattle.bor_desk.specs.Operations.Sight.{seen_by}
use Rattle.bor_desk.specs.ChainReport.{IsTextOf}
use Rattle.bor_desk.specs.Step.{Answer, chains_answer, evidence_answer}
use Rattle.bor_words.specs.declared.report.Report.{Report}
use Rattle.bor_program.specs.Reporting.{day_reported, entity_asked}
use Rattle.bor_program.proofs.report.report_in.Goals as goal

day_is : (date : Option ℤ) (today : ℤ) → unwrap_or date today ≡ day_reported date today
day_is (Some day) today = refl
day_is None today = refl

-- the report, or the evidence where why is asked
abbrev asked_answer : Bool → Report → Register → Answer
asked_answer why asked r =
    if why
    then evidence_answer (seen_by asked.viewer r) (entity_asked asked) (day_reported asked.date r.day)
    else chains_answer (seen_by asked.viewer r) (entity_asked asked) (day_reported asked.date r.day)

pub returns-clause-text : goal.returns-clause-text
returns-clause-text g c = λ r shown clean.
    let between = c.report_text.ensures.kept.began clean in
    let entity : c.in_ok-entity.entity ≡ entity_asked c.args.asked.now = c.in_ok-entity.ensures in
    let told = subst (λ n. IfOk c.report_text.result (λ text. IsTextOf (chains_answer (seen_by c.args.asked.now.viewer r) n c.in_ok-day.day) text)) entity (c.report_text.ensures.text r ((c.date_or_day.ensures.kept.same between r).0 shown) clean) in
    let report = subst (λ day. IfOk c.report_text.result (λ text. IsTextOf (chains_answer (seen_by c.args.asked.now.viewer r) (entity_asked c.args.asked.now) day) text))
    (c.in_ok-day.ensures.answer r shown between ∙ day_is c.args.asked.now.date r.day) told in
    subst (λ (why : Bool). IfOk c.report_text.result (λ text. IsTextOf (asked_answer why c.args.asked.now r) text)) (sym c.if-asked.false) report
