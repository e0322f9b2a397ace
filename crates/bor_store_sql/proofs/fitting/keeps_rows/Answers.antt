use Rattle.std.proofs.Common.{arith, rules}
use Rattle.bor_store_sql.specs.Fitting.{IsKept}
use Rattle.bor_store_sql.proofs.Finding.{nothing_read, read_on}
use Rattle.bor_store_sql.proofs.Fits.{as_many, one_more, pair_at, still_lists, told_after, told_false, told_unless}
use Rattle.bor_store_sql.proofs.fitting.keeps_rows.Goals as goal

pub returns-then-rows-statements : goal.returns-then-rows-statements
returns-then-rows-statements g c =
    told_false _ _ nothing_read (λ clean r shows h. let same = as_many (IsKept c.args.filing.agent c.args.filing.number r.members) 1 c.args.statements.now c.args.rows.now h in absurd (omega (arith, same)))

pub loop-index-preserved : goal.loop-index-preserved
loop-index-preserved g c = search (rules, read_on, still_lists, one_more)

pub returns-then-not-branch : goal.returns-then-not-branch
returns-then-not-branch g c = search (rules, told_unless, pair_at, told_after)
