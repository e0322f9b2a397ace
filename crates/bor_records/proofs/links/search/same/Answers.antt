use Rattle.std.proofs.Common.{arith}
use Rattle.std.specs.BTreeSet.{contains}
use Rattle.bor_records.specs.Links.Signs.{sign_cmp}
use Rattle.bor_records.proofs.OnLinks.Signed.{gathered_more, gathered_start, gathered_told}
use Rattle.bor_records.proofs.OnLinks.Signs.{empty_has}
use Rattle.bor_records.proofs.ReadingLaws.{read_fails, read_next, read_so, read_stops, unread}
use Rattle.bor_records.proofs.links.search.same.Goals as goal

pub loop-next-init : goal.loop-next-init
loop-next-init g c = unread g.met.R.Records.goes_on
    (λ m. gathered_start (g.R.Records.shown m) c.args.node.now c.in_ok-copy.field-0 c.new-class.result c.add.new.self (λ k. contains sign_cmp c.new-looked.result k) c.new-class.ensures c.in_ok-copy.ensures c.in_ok-add.ensures.grown
    (λ k. empty_has sign_cmp c.new-looked.result k c.new-looked.ensures.empty))

pub loop-next-preserved : goal.loop-next-preserved
loop-next-preserved g c = read_so (read_next g.met.R.Records.goes_on c.loop-next.invariant c.in_ok-add_by_node.ensures)
    (λ m is.
    gathered_more (g.R.Records.shown m) c.args.node.now c.loop-next.next c.in_ok-one.one c.loop-next.class c.add_by_node.new.class (λ k. contains sign_cmp c.loop-next.looked k) (λ k. contains sign_cmp c.add_by_node.new.looked k)
    (omega arith) c.in_ok-one.ensures is.0 is.1)

pub returns : goal.returns
returns g c = read_so c.loop-next.invariant
    (λ m is.
    gathered_told (g.R.Records.shown m) c.args.node.now c.loop-next.next c.loop-next.class c.into_nodes.result.items (λ k. contains sign_cmp c.loop-next.looked k) c.into_nodes.ensures.same (omega arith) is c.into_nodes.ensures.distinct)

pub returns-in_err-add_by_node : goal.returns-in_err-add_by_node
returns-in_err-add_by_node g c = read_fails c.from_residual-in_err-add_by_node.ensures.1 (read_next g.met.R.Records.goes_on c.loop-next.invariant c.in_err-add_by_node.ensures)

pub returns-in_err-copy : goal.returns-in_err-copy
returns-in_err-copy g c = read_stops (unread {x = tt {0}} {P = λ m x. Unit {0}} g.met.R.Records.goes_on (λ m. tt)) c.from_residual.ensures.1 (g.met.R.Records.tells_memory _)

pub returns-in_err-add : goal.returns-in_err-add
returns-in_err-add g c = read_stops (unread {x = tt {0}} {P = λ m x. Unit {0}} g.met.R.Records.goes_on (λ m. tt)) c.from_residual-in_err-add.ensures.1 (g.met.R.Records.tells_memory _)

pub returns-in_err-one : goal.returns-in_err-one
returns-in_err-one g c = read_stops c.loop-next.invariant c.from_residual-in_err-one.ensures.1 (g.met.R.Records.tells_memory _)
