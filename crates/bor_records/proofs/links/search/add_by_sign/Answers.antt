use Rattle.std.proofs.Common.{sym, ◌∙◌}
use Rattle.std.specs.BTreeSet.{contains}
use Rattle.bor_records.specs.Links.Signs.{sign_cmp}
use Rattle.bor_records.proofs.OnLinks.Signed.{expands_alone, expands_seen, expands_sign}
use Rattle.bor_records.proofs.ReadingLaws.{read_so, unread}
use Rattle.bor_records.proofs.links.search.add_by_sign.Goals as goal

pub returns-then-contains : goal.returns-then-contains
returns-then-contains g c = unread g.met.R.Records.goes_on
    (λ m. expands_seen (g.R.Records.shown m) c.args.sign c.args.class.now (λ k. contains sign_cmp c.args.looked.now k) (sym c.contains.ensures ∙ c.if-contains.true))

pub returns : goal.returns
returns g c = read_so c.in_ok-candidates.ensures
    (λ m grown. expands_sign (g.R.Records.shown m) c.args.sign c.args.class.now c.add_all_signed.new.class (λ k. contains sign_cmp c.args.looked.now k) (λ k. contains sign_cmp c.note.new.looked k) grown
    c.in_ok-note.ensures)

pub returns-then-candidates-lt2 : goal.returns-then-candidates-lt2
returns-then-candidates-lt2 g c = read_so c.in_ok-candidates.ensures
    (λ m grown. expands_alone (g.R.Records.shown m) c.args.sign c.args.class.now c.add_all_signed.new.class (λ k. contains sign_cmp c.args.looked.now k) grown)
