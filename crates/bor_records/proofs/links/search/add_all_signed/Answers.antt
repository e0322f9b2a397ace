use Rattle.bor_records.proofs.OnLinks.Signed.{found_all}
use Rattle.bor_records.proofs.ReadingLaws.{read_fails, read_next, read_so}
use Rattle.bor_records.proofs.links.search.add_all_signed.Goals as goal

pub returns : goal.returns
returns g c = read_so (read_next g.met.R.Records.goes_on c.in_ok-candidates.ensures c.in_ok-add_signed.ensures)
    (λ m is. found_all (g.R.Records.shown m) c.args.sign.now (g.R.Nodes.AsSlice.items c.in_ok-candidates.candidates) c.args.class.now c.add_signed.new.class is.0
    (rw c.as_slice.ensures at is.1))

pub returns-in_err-add_signed : goal.returns-in_err-add_signed
returns-in_err-add_signed g c = read_fails c.from_residual-in_err-add_signed.ensures.1 (read_next g.met.R.Records.goes_on c.in_ok-candidates.ensures c.in_err-add_signed.ensures)
