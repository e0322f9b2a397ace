use Rattle.std.proofs.Common.{rules}
use Rattle.bor_store_sql.specs.Rows.Placed.{same_place}
use Rattle.bor_store_sql.proofs.rows.split.split_identifiers.Goals as goal

pub returns : goal.returns
returns c = c.split_own.ensures (λ row. same_place row.at c.args.at.now) (λ x r h. search rules)
