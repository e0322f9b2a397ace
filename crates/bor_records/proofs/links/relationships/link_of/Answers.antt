use Rattle.std.proofs.Common.{◌∙◌, ap, sym}
use Rattle.bor_records.specs.Links.Relationships.{with_open_party}
use Rattle.bor_records.proofs.ReadingLaws.{read_as, read_next}
use Rattle.bor_records.proofs.links.relationships.link_of.Goals as goal

pub returns-in-Some : goal.returns-in-Some
returns-in-Some g c = read_as (read_next g.met.R.Records.goes_on c.in_ok-link.ensures c.if_open.ensures)
    (λ m link is entity. is.1 ∙ ap (with_open_party (g.R.Records.shown m)) (sym c.in-Some.is) ∙ is.0 entity)
