use Rattle.bor_records.specs.Links.Answers.{AreLinksInto}
use Rattle.bor_store_keys.proofs.Holding.{read_viewed}
use Rattle.bor_store_keys.proofs.links.read_links_into.Goals as goal

pub returns : goal.returns
returns g c = read_viewed (λ shown links. AreLinksInto shown c.args.node.now links.items) c.in_ok-view.ensures c.links_told.ensures
