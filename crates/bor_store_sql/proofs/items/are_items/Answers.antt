use Rattle.std.proofs.Common.{◌≡◌, true≢false, sym, arith, rules}
use Rattle.bor_store_sql.proofs.Fits.{as_many, one_more, pair_at}
use Rattle.bor_store_sql.proofs.items.are_items.Goals as goal

pub returns-then-rows-items : goal.returns-then-rows-items
returns-then-rows-items g c = (λ e. absurd (true≢false (sym e)), λ h. absurd (let same = as_many (λ n x row. row ≡ g.T.ListItem.columns c.args.at.now n x) 1 c.args.items.now c.args.rows.now h in omega arith))

pub returns-then-not-has_row : goal.returns-then-not-has_row
returns-then-not-has_row g c = search (rules, pair_at)

pub loop-index-preserved : goal.loop-index-preserved
loop-index-preserved g c = search (rules, one_more)
