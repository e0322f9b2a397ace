use Rattle.bor_records.specs.Links.Answers.{AreIdentified}
use Rattle.bor_store_keys.proofs.Holding.{read_viewed}
use Rattle.bor_store_keys.proofs.identified.read_identified.Goals as goal

pub returns : goal.returns
returns g c = read_viewed (λ shown nodes. AreIdentified shown c.args.identifier.now nodes.items) c.in_ok-view.ensures c.identified_in.ensures
