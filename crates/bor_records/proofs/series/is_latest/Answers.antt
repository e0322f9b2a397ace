use Rattle.std.proofs.Common.{◌≡◌, true, rules}
use Rattle.bor_records.specs.Snapshot.{is_dated}
use Rattle.bor_records.proofs.Backwards.{seen_more}
use Rattle.bor_records.proofs.series.is_latest.Goals as goal

pub returns-then-fresh-clause-seen : goal.returns-then-fresh-clause-seen
returns-then-fresh-clause-seen c =
    let dated : is_dated c.args.day c.args.row.now ≡ true = search rules in
    seen_more c.args.day c.args.row.now c.args.seen.now c.insert.new.self c.args.series c.requires dated c.in_ok-fresh.ensures.updates.0
