use Rattle.std.proofs.Common.{◌≡◌, ◌++◌, true≢false, OnOk, sym, subst, ◌∙◌}
use Rattle.bor_store_sql.specs.Rows.Placed.{placed_from}
use Rattle.bor_store.specs.Migrating.{interest_days}
use Rattle.bor_store.proofs.Owned.{fits_so}
use Rattle.bor_store.proofs.Lines.{file_added, misfit}
use Rattle.bor_store.proofs.files.add_file.Goals as goal

pub returns-then-not-fits-clause-gathered : goal.returns-then-not-fits-clause-gathered
returns-then-not-fits-clause-gathered g c clean r shows f at same =
    let agent = c.args.agent.now in
    let said = c.in_ok-statements.statements.items in
    let told = fits_so agent c.in_ok-copy.field-0 c.args.number r f said c.as_slice.result.now c.in_ok-fits.fits c.in_ok-copy.ensures c.as_slice.ensures.value shows.stored at (c.in_ok-fits.ensures.tells.told clean r shows) in
    misfit agent c.args.number f c.args.bytes.now same c.args.days.now.items c.args.days.now.items (Unit {0}) said c.in_ok-statements.ensures (λ fit. true≢false (sym (told.1 fit) ∙ c.if-not-fits.true))

pub returns-clause-gathered : goal.returns-clause-gathered
returns-clause-gathered g c clean r shows f at same =
    let agent = c.args.agent.now in
    let number = c.args.number in
    let before = c.args.days.now.items in
    let after = c.add_days.new.rows.items in
    let said = c.in_ok-statements.statements.items in
    let told = fits_so agent c.in_ok-copy.field-0 number r f said c.as_slice.result.now c.in_ok-fits.fits c.in_ok-copy.ensures c.as_slice.ensures.value shows.stored at (c.in_ok-fits.ensures.tells.told clean r shows) in
    file_added agent number f c.args.bytes.now same before after said c.add_days.result c.in_ok-statements.ensures (told.0 c.if-not-fits.false)
    (subst (λ ss. OnOk c.add_days.result (after ≡ before ++ interest_days (placed_from agent number 1 ss))) c.as_slice-2.ensures.value c.add_days.ensures.added) c.add_days.ensures.failed
