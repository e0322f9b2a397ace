use Rattle.std.proofs.Common.{◌≡◌}
use Rattle.bor_records.specs.Links.Shown.{info_of}
use Rattle.bor_store_keys.proofs.Holding.{read_viewed}
use Rattle.bor_store_keys.proofs.nodes.read_node.Goals as goal

pub returns : goal.returns
returns g c = read_viewed (λ shown info. info ≡ info_of shown c.args.node.now) c.in_ok-view.ensures c.info_told.ensures
