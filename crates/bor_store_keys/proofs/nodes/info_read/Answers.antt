use Rattle.std.proofs.Common.{◌∙◌, Option, option_map, ap, sym}
use Rattle.bor_records.specs.declared.links.node.OpenNode.{OpenNode}
use Rattle.bor_records.proofs.OnLinks.ByKey.{listed_by_key}
use Rattle.bor_store_reads.proofs.Reading.{read_so}
use Rattle.bor_store_keys.specs.Viewed.{rows_seen}
use Rattle.bor_store_keys.proofs.nodes.info_read.Goals as goal

pub returns-in-Some : goal.returns-in-Some
returns-in-Some g c = read_so c.in_ok-one.ensures
    (λ r stored is. ap (λ (o : Option OpenNode). option_map (λ x. x.info) o) (sym c.in-Some.is ∙ is ∙ sym (listed_by_key c.args.view.now.day c.args.node.now (rows_seen c.args.view.now r))))

pub returns-in-None : goal.returns-in-None
returns-in-None g c = read_so c.in_ok-one.ensures
    (λ r stored is. ap (λ (o : Option OpenNode). option_map (λ x. x.info) o) (sym c.in-None.is ∙ is ∙ sym (listed_by_key c.args.view.now.day c.args.node.now (rows_seen c.args.view.now r))))
