use Rattle.std.proofs.Common.{◌∙◌, Option, option_and_then, ap, sym}
use Rattle.bor_records.specs.declared.links.node.OpenNode.{OpenNode}
use Rattle.bor_records.specs.Links.Shown.{entity_identifiers}
use Rattle.bor_records.proofs.OnLinks.ByKey.{listed_by_key}
use Rattle.bor_store_reads.proofs.Reading.{read_so}
use Rattle.bor_store_keys.specs.Viewed.{rows_seen}
use Rattle.bor_store_keys.proofs.nodes.identifiers_in.Goals as goal

pub returns : goal.returns
returns g c = read_so c.in_ok-node_in.ensures
    (λ r stored is. c.identifiers_of.ensures ∙ ap (λ (o : Option OpenNode). option_and_then entity_identifiers o) (is ∙ sym (listed_by_key c.args.view.now.day c.args.node.now (rows_seen c.args.view.now r))))
