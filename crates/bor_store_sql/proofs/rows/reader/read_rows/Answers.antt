use Rattle.std.proofs.Common.{◌≡◌, ◌∷◌, ◌+◌, drop, sym, rules}
use Rattle.std.proofs.lemmas.List.{drop_all}
use Rattle.bor_store_sql.proofs.OnRows.Lists.{one_read, all_read, next_read, next_row}
use Rattle.bor_store_sql.proofs.rows.reader.read_rows.Goals as goal

pub returns-in_err-value : goal.returns-in_err-value
returns-in_err-value g c xs is formed =
    let step : drop c.loop-row.row-index c.args.rows.now ≡ c.row-item.result ∷ drop (c.loop-row.row-index + 1) c.args.rows.now = next_row c.args.rows.now c.loop-row.row-index c.row-item.result _ c.loop-row-test.true (sym c.row-item.is) in
    next_read g.T.TableRow.columns g.T.TableRow.is_formed xs _ _ _ _ (rw step at (c.loop-row.invariant xs is formed)) (λ y e f. let told = c.in_err-value.ensures.reads y e f in search rules)

pub loop-row-preserved : goal.loop-row-preserved
loop-row-preserved g c xs is formed =
    let step : drop c.loop-row.row-index c.args.rows.now ≡ c.row-item.result ∷ drop (c.loop-row.row-index + 1) c.args.rows.now = next_row c.args.rows.now c.loop-row.row-index c.row-item.result _ c.loop-row-test.true (sym c.row-item.is) in
    let kept = one_read g.T.TableRow.columns g.T.TableRow.is_formed xs _ _ _ c.in_ok-value.value (rw step at (c.loop-row.invariant xs is formed)) (λ y e f. c.in_ok-value.ensures.reads y e f) in
    search rules

pub returns : goal.returns
returns g c xs is formed = all_read g.T.TableRow.columns g.T.TableRow.is_formed xs _ (rw (drop_all c.loop-row.row-index c.args.rows.now c.loop-row-test.false) at (c.loop-row.invariant xs is formed))
