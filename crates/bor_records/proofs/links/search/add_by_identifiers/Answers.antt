use Rattle.std.proofs.Common.{arith, ap, ◌∙◌}
use Rattle.std.proofs.lemmas.List.{take_all}
use Rattle.std.specs.BTreeSet.{contains}
use Rattle.bor_records.specs.Links.Signs.{by_identifier, sign_cmp}
use Rattle.bor_records.proofs.OnLinks.Signed.{expands_none, expands_identifier}
use Rattle.bor_records.proofs.ReadingLaws.{read_next, read_so, unread, read_fails}
use Rattle.bor_records.proofs.links.search.add_by_identifiers.Goals as goal

pub loop-identifier-init : goal.loop-identifier-init
loop-identifier-init g c = unread g.met.R.Records.goes_on (λ m. expands_none (g.R.Records.shown m) c.args.class.now (λ k. contains sign_cmp c.args.looked.now k))

pub loop-identifier-preserved : goal.loop-identifier-preserved
loop-identifier-preserved g c = read_so (read_next g.met.R.Records.goes_on c.loop-identifier.invariant c.in_ok-add_by_sign.ensures)
    (λ m is.
    expands_identifier (g.R.Records.shown m) c.args.identifiers.now c.loop-identifier.identifier-index c.identifier-item.result c.in_ok-sign.sign c.args.class.now c.loop-identifier.class c.add_by_sign.new.class
    (λ k. contains sign_cmp c.args.looked.now k) (λ k. contains sign_cmp c.loop-identifier.looked k) (λ k. contains sign_cmp c.add_by_sign.new.looked k) (omega arith)
    (c.in_ok-sign.ensures ∙ ap by_identifier c.identifier-item.is) is.0 is.1)

pub returns : goal.returns
returns g c = read_so c.loop-identifier.invariant
    (λ m is. rw (take_all c.loop-identifier.identifier-index c.args.identifiers.now (omega arith)) at is)

pub returns-in_err-add_by_sign : goal.returns-in_err-add_by_sign
returns-in_err-add_by_sign g c = read_fails c.from_residual-in_err-add_by_sign.ensures.1 (read_next g.met.R.Records.goes_on c.loop-identifier.invariant c.in_err-add_by_sign.ensures)
