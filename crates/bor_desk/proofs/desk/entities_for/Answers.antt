use Rattle.std.proofs.Common.{ℤ, subst}
use Rattle.bor_records.specs.Links.Answers.{Identified}
use Rattle.bor_records.specs.Links.Rows.{shown_of}
use Rattle.bor_desk.specs.Evidence.{AreRecords}
use Rattle.bor_desk.specs.Operations.Sight.{seen_by}
use Rattle.bor_desk.proofs.desk.entities_for.Goals as goal

pub returns-clause-answer : goal.returns-clause-answer
returns-clause-answer g c = λ r is clean.
    let seen = seen_by c.args.viewer.now r in
    let i = c.args.identifier.now in
    let read = c.in_ok-records.ensures in
    let began = c.entities_seen.ensures.kept.began clean in
    let date = c.in_ok-date.ensures.answer r is began in (
      c.in_ok-records.records.items,
      subst (λ (d : ℤ). AreRecords d seen (Identified (shown_of d seen) i) c.in_ok-records.records.items) date (read.answer r ((c.date_or_day.ensures.kept.same began r).0 is) clean),
      cc (c.in_ok-copy.ensures, date, c.new.ensures),
    )
