use Rattle.std.proofs.Common.{arith}
use Rattle.std.proofs.lemmas.List.{take_all}
use Rattle.bor_records.proofs.OnLinks.Signed.{found_more, found_none}
use Rattle.bor_records.proofs.ReadingLaws.{read_next, read_so, unread, read_fails}
use Rattle.bor_records.proofs.links.search.add_signed.Goals as goal

pub loop-candidate-init : goal.loop-candidate-init
loop-candidate-init g c = unread g.met.R.Records.goes_on (λ m. found_none (g.R.Records.shown m) c.args.sign.now c.args.class.now)

pub loop-candidate-preserved : goal.loop-candidate-preserved
loop-candidate-preserved g c = read_so (read_next g.met.R.Records.goes_on c.loop-candidate.invariant c.in_ok-add_if_signed.ensures)
    (λ m is.
    found_more (g.R.Records.shown m) c.args.sign.now c.args.candidates.now c.loop-candidate.candidate-index c.candidate-item.result c.args.class.now c.loop-candidate.class c.add_if_signed.new.class (omega arith) c.candidate-item.is is.0 is.1)

pub returns : goal.returns
returns g c = read_so c.loop-candidate.invariant
    (λ m is. rw (take_all c.loop-candidate.candidate-index c.args.candidates.now (omega arith)) at is)

pub returns-in_err-add_if_signed : goal.returns-in_err-add_if_signed
returns-in_err-add_if_signed g c = read_fails c.from_residual.ensures.1 (read_next g.met.R.Records.goes_on c.loop-candidate.invariant c.in_err-add_if_signed.ensures)
