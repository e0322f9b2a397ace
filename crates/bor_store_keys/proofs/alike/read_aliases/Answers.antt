use Rattle.bor_records.specs.Links.Answers.{AreAliases}
use Rattle.bor_store_keys.proofs.Holding.{read_viewed}
use Rattle.bor_store_keys.proofs.alike.read_aliases.Goals as goal

pub returns : goal.returns
returns g c = read_viewed (λ shown nodes. AreAliases shown c.args.node.now nodes.items) c.in_ok-view.ensures c.aliases_in.ensures
