use Rattle.std.proofs.Common.{◌≡◌, rules, slice_get, Some}
use Rattle.bor_store_sql.proofs.OnRows.Lists.{first_read}
use Rattle.bor_store_sql.proofs.rows.answers.first_row.Goals as goal

pub returns-in_err-read-in-Some : goal.returns-in_err-read-in-Some
returns-in_err-read-in-Some g c xs is formed =
    let first : slice_get c.args.rows.now 0 ≡ Some c.in-Some.row.now = search rules in
    first_read g.T.TableRow.columns g.T.TableRow.is_formed c.args.rows.now xs c.in-Some.row.now _ first is formed (λ y e f. let told = c.in_err-read-in-Some.ensures.reads y e f in search rules)
