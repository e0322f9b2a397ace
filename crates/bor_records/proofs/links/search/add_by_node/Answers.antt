use Rattle.std.specs.BTreeSet.{contains}
use Rattle.bor_records.specs.Links.Signs.{sign_cmp}
use Rattle.bor_records.proofs.OnLinks.Signed.{expands_both, expands_none, no_signs, signs_told}
use Rattle.bor_records.proofs.ReadingLaws.{read_as, read_fails, read_next, read_so}
use Rattle.bor_records.proofs.links.search.add_by_node.Goals as goal

pub returns-in_default : goal.returns-in_default
returns-in_default g c = read_so c.in_ok-identifiers.ensures
    (λ m told.
    let s = g.R.Records.shown m in
    let none = no_signs s g.R.Identifiers.AsSlice.items c.args.node.now _ told c.in_default.is in
    rw none (expands_none s c.args.class.now (contains sign_cmp c.args.looked.now)))

pub returns : goal.returns
returns g c =
    read_as (read_next g.met.R.Records.goes_on c.in_ok-identifiers.ensures (read_next g.met.R.Records.goes_on c.in_ok-add_by_sign.ensures c.add_by_identifiers.ensures))
    (λ m _ is.
    let s = g.R.Records.shown m in
    let items = g.R.Identifiers.AsSlice.items c.in-Some.identifiers in
    expands_both s c.in_ok-sign.sign c.args.node.now items c.args.class.now c.add_by_sign.new.class c.add_by_identifiers.new.class
    (contains sign_cmp c.args.looked.now) (contains sign_cmp c.add_by_sign.new.looked) (contains sign_cmp c.add_by_identifiers.new.looked) c.in_ok-sign.ensures
    (signs_told s g.R.Identifiers.AsSlice.items c.args.node.now _ is.0 c.in-Some.identifiers c.in-Some.is) is.1.0
    (rw c.as_slice.ensures at is.1.1))

pub returns-in_err-add_by_sign : goal.returns-in_err-add_by_sign
returns-in_err-add_by_sign g c = read_fails c.from_residual-in_err-add_by_sign.ensures.1 (read_next g.met.R.Records.goes_on c.in_ok-identifiers.ensures c.in_err-add_by_sign.ensures)
