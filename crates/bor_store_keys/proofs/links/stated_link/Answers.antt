use Rattle.std.proofs.Common.{◌∙◌, Option, ap, option_and_then, sym}
use Rattle.bor_records.specs.declared.row.Row.{Row}
use Rattle.bor_records.specs.Links.Answers.{only_into}
use Rattle.bor_records.specs.Links.Rows.{link_stated}
use Rattle.bor_store_reads.proofs.Reading.{read_so}
use Rattle.bor_store_keys.proofs.links.stated_link.Goals as goal

pub returns-in_ok-link_stated-in-Some : goal.returns-in_ok-link_stated-in-Some
returns-in_ok-link_stated-in-Some g c = read_so c.in_ok-row.ensures
    (λ r stored is. c.in_ok-link_stated-in-Some.ensures ∙ ap (λ (o : Option Row). only_into c.args.subject.now (option_and_then (λ (row : Row). link_stated c.args.view.now.day c.args.rec.now row.statement.details) o)) (sym c.in-Some.is ∙ is))

pub returns-in-None : goal.returns-in-None
returns-in-None g c = read_so c.in_ok-row.ensures
    (λ r stored is. ap (λ (o : Option Row). only_into c.args.subject.now (option_and_then (λ (row : Row). link_stated c.args.view.now.day c.args.rec.now row.statement.details) o)) (sym c.in-None.is ∙ is))
