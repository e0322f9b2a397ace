use Rattle.std.proofs.Common.{◌≡◌, ◌∷◌, ◌+◌, drop, sym}
use Rattle.std.proofs.lemmas.List.{drop_all}
use Rattle.bor_store_sql.proofs.OnRows.Lists.{next_row}
use Rattle.bor_store_sql.proofs.OnRows.Rebuilt.{one_filing, all_filings}
use Rattle.bor_store_sql.proofs.rows.members.filings_of.Goals as goal

pub loop-filing-preserved : goal.loop-filing-preserved
loop-filing-preserved c agent fs numbered rows statements =
    let step : drop c.loop-filing.filing-index c.args.filings.now ≡ c.filing-item.result ∷ drop (c.loop-filing.filing-index + 1) c.args.filings.now = next_row c.args.filings.now c.loop-filing.filing-index c.filing-item.result _ c.loop-filing-test.true (sym c.filing-item.is) in
    rw c.in_ok-push.ensures.items (one_filing agent fs c.loop-filing.own.items c.filing-item.result _ _ c.split_filing.result.0.now _ c.in_ok-made.made
    (rw step at (c.loop-filing.invariant agent fs numbered rows statements)) c.split_filing.ensures c.in_ok-made.ensures)

pub returns : goal.returns
returns c agent fs numbered rows statements =
    all_filings agent fs c.loop-filing.own.items _ (rw (drop_all c.loop-filing.filing-index c.args.filings.now c.loop-filing-test.false) at (c.loop-filing.invariant agent fs numbered rows statements))
