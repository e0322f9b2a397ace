use Rattle.bor_records.proofs.OnLinks.Signed.{are_identified}
use Rattle.bor_records.proofs.ReadingLaws.{read_so}
use Rattle.bor_records.proofs.links.search.identified.Goals as goal

pub returns : goal.returns
returns g c = read_so c.in_ok-add_all_signed.ensures
    (λ m grown distinct.
    are_identified (g.R.Records.shown m) c.args.identifier.now c.in_ok-sign.sign c.new-class.result c.add_all_signed.new.class c.into_nodes.result.items c.in_ok-sign.ensures distinct c.new-class.ensures grown c.into_nodes.ensures.same c.into_nodes.ensures.distinct)
