use Rattle.bor_records.specs.Links.Answers.{AreSame}
use Rattle.bor_store_keys.proofs.Holding.{read_viewed}
use Rattle.bor_store_keys.proofs.alike.read_same.Goals as goal

pub returns : goal.returns
returns g c = read_viewed (λ shown nodes. AreSame shown c.args.node.now nodes.items) c.in_ok-view.ensures c.same_told.ensures
