use Rattle.bor_records.proofs.OnLinks.Signed.{has_none, has_told}
use Rattle.bor_records.proofs.ReadingLaws.{read_so}
use Rattle.bor_records.proofs.links.search.has_sign.Goals as goal

pub returns-in-Some : goal.returns-in-Some
returns-in-Some g c = read_so c.in_ok-identifiers.ensures
    (λ m told.
    has_told (g.R.Records.shown m) g.R.Identifiers.AsSlice.items c.args.candidate.now _ told c.args.sign.now c.in-Some.identifiers c.as_slice.result.now c.is_of.result c.in-Some.is c.as_slice.ensures c.is_of.ensures)

pub returns-in-None : goal.returns-in-None
returns-in-None g c = read_so c.in_ok-identifiers.ensures (λ m told. has_none (g.R.Records.shown m) g.R.Identifiers.AsSlice.items c.args.candidate.now _ told c.args.sign.now c.in-None.is)
