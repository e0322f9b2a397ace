use Rattle.std.specs.BTreeSet.{contains}
use Rattle.bor_records.specs.Links.Signs.{sign_cmp}
use Rattle.bor_records.proofs.OnLinks.Signed.{aliases_found}
use Rattle.bor_records.proofs.OnLinks.Signs.{empty_has}
use Rattle.bor_records.proofs.ReadingLaws.{read_so}
use Rattle.bor_records.proofs.links.search.aliases.Goals as goal

pub returns : goal.returns
returns g c = read_so c.in_ok-add_by_node.ensures
    (λ m expands.
    aliases_found (g.R.Records.shown m) c.args.node.now c.new-class.result c.add_by_node.new.class c.into_others.result.items (λ k. contains sign_cmp c.new-looked.result k) (λ k. contains sign_cmp c.add_by_node.new.looked k) c.new-class.ensures
    (λ k. empty_has sign_cmp c.new-looked.result k c.new-looked.ensures.empty) expands c.into_others.ensures.others c.into_others.ensures.distinct)
