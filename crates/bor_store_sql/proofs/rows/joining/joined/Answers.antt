use Rattle.std.proofs.Common.{[], rules}
use Rattle.std.proofs.lemmas.List.{nil_from_length}
use Rattle.bor_store_sql.proofs.OnRows.Joins.{one_more, none_left}
use Rattle.bor_store_sql.proofs.rows.joining.joined.Goals as goal

pub loop-row-preserved : goal.loop-row-preserved
loop-row-preserved c = search (rules, one_more)

pub returns : goal.returns
returns c ps apart rows is ds = search (rules, nil_from_length, none_left)
