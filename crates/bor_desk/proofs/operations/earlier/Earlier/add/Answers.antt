use Rattle.std.specs.BTreeMap.{get}
use Rattle.std.specs.BTreeSet.{contains}
use Rattle.std.specs.Ordering.{nat_cmp}
use Rattle.std.specs.Cmp.Lexicographic.{slice_cmp}
use Rattle.bor_records.specs.Settling.{as_live}
use Rattle.bor_desk.specs.Operations.Earlier.{record_cmp}
use Rattle.bor_desk.proofs.OnOperations.Earlier.{ids_more, lasts_more}
use Rattle.bor_desk.proofs.operations.earlier.Earlier.add.Goals as goal

pub returns : goal.returns
returns c = λ live found.
    let one = as_live c.args.due c.args.statement.now in
    record {
      ids = ids_more live one c.in_ok-id.id (λ id. contains (slice_cmp nat_cmp) c.args.self.now.ids id) (λ id. contains (slice_cmp nat_cmp) c.insert.new.self id) c.in_ok-id.ensures found.ids c.in_ok-insert.ensures.updates.0;
      lasts = lasts_more live one c.args.key c.known.result (λ key. get record_cmp c.args.self.now.lasts key) (λ key. get record_cmp c.insert-2.new.self key) c.requires c.known.ensures found.lasts c.in_ok-insert-2.ensures.updates.0;
    }
