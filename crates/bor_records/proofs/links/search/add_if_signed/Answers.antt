use Rattle.std.proofs.Common.{◌≡◌, true, false, sym, ◌∙◌}
use Rattle.bor_records.proofs.OnLinks.Signed.{found_there, found_not, found_added}
use Rattle.bor_records.proofs.ReadingLaws.{read_fails, read_so, read_stops, unread}
use Rattle.bor_records.proofs.links.search.add_if_signed.Goals as goal

pub returns-then-has : goal.returns-then-has
returns-then-has g c = unread g.met.R.Records.goes_on (λ m. found_there (g.R.Records.shown m) c.args.sign.now c.args.candidate.now c.args.class.now (c.has.ensures.0 c.if-has.true))

pub returns-then-not-branch : goal.returns-then-not-branch
returns-then-not-branch g c = read_so c.in_ok-has_sign.ensures
    (λ m has. found_not (g.R.Records.shown m) c.args.sign.now c.args.candidate.now c.args.class.now (λ own. let no : true ≡ false = sym (has.1 own) ∙ c.if-not-branch.true in cc))

pub returns : goal.returns
returns g c = read_so c.in_ok-has_sign.ensures
    (λ m has. found_added (g.R.Records.shown m) c.args.sign.now c.args.candidate.now c.in_ok-copy.field-0 c.args.class.now c.add.new.self (has.0 c.if-not-branch.false) c.in_ok-copy.ensures c.in_ok-add.ensures.grown)

pub returns-in_err-has_sign : goal.returns-in_err-has_sign
returns-in_err-has_sign g c = read_fails c.from_residual.ensures.1 c.in_err-has_sign.ensures

pub returns-in_err-copy : goal.returns-in_err-copy
returns-in_err-copy g c = read_stops c.in_ok-has_sign.ensures c.from_residual-in_err-copy.ensures.1 (g.met.R.Records.tells_memory _)

pub returns-in_err-add : goal.returns-in_err-add
returns-in_err-add g c = read_stops c.in_ok-has_sign.ensures c.from_residual-in_err-add.ensures.1 (g.met.R.Records.tells_memory _)
