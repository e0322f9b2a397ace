use Rattle.std.proofs.Common.{rules, ◌==◌}
use Rattle.bor_store_sql.proofs.rows.members.split_filing.Goals as goal

pub returns : goal.returns
returns c = c.split_own.ensures (λ row. row.at.filing == c.args.number) (λ x r h. search rules)
