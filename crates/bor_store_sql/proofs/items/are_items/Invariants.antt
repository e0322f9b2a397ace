use Rattle.std.proofs.Common.{◌≡◌, take}
use Rattle.bor_store_sql.specs.Fitting.{Pairwise}
use Rattle.bor_store_sql.proofs.items.are_items.Given as goal

-- the rows so far are those of the items
abbrev pub invariant-loop-index : goal.invariant-loop-index
invariant-loop-index g l = record {
  counted : l.number ≡ l.index;
  made : Pairwise (λ number item row. row ≡ g.T.ListItem.columns l.at number item) 1 (take l.index l.items) (take l.index l.rows);
}
