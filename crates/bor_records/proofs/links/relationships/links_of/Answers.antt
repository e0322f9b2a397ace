use Rattle.std.proofs.Common.{arith, refl, rules}
use Rattle.std.specs.List.{filter_map}
use Rattle.bor_records.proofs.OnLinks.Linking.{all_done, one_more}
use Rattle.bor_records.proofs.ReadingLaws.{read_fails, read_next, read_so, read_stops, unread}
use Rattle.bor_records.proofs.links.relationships.links_of.Goals as goal
use Rattle.bor_records.specs.Links.Relationships.{link_of}

pub loop-rec-init : goal.loop-rec-init
loop-rec-init g c = unread g.met.R.Records.goes_on (λ m entity. search rules)

pub loop-rec-preserved : goal.loop-rec-preserved
loop-rec-preserved g c = read_so (read_next g.met.R.Records.goes_on c.loop-rec.invariant c.in_ok-link.ensures)
    (λ m is entity.
    let link = link_of (g.R.Records.shown m) c.args.subject.now in
    one_more link c.args.candidates.now c.loop-rec.rec-index c.rec-item.result c.in_ok-link.link c.loop-rec.links.items c.push_some.new.items.items (filter_map link c.args.candidates.now) (omega arith) c.rec-item.is (is.1 entity) c.in_ok-push_some.ensures (is.0 entity))

pub returns : goal.returns
returns g c = read_so c.loop-rec.invariant
    (λ m is entity.
    let link = link_of (g.R.Records.shown m) c.args.subject.now in
    all_done (filter_map link) refl c.loop-rec.links.items (filter_map link c.args.candidates.now) c.args.candidates.now c.loop-rec.rec-index (omega arith) (is entity))

pub returns-in_err-link : goal.returns-in_err-link
returns-in_err-link g c = read_fails c.from_residual.ensures.1 (read_next g.met.R.Records.goes_on c.loop-rec.invariant c.in_err-link.ensures)

pub returns-in_err-push_some : goal.returns-in_err-push_some
returns-in_err-push_some g c = read_stops (read_next g.met.R.Records.goes_on c.loop-rec.invariant c.in_ok-link.ensures) c.from_residual-in_err-push_some.ensures.1 (g.met.R.Records.tells_memory _)
