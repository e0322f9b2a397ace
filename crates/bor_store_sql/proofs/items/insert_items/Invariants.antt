use Rattle.std.proofs.Common.{◌≡◌, ◌<◌, ◌^◌, Ok, take}
use Rattle.sqlite.specs.Held.{state}
use Rattle.bor_store_sql.specs.Shown.{StepsTo}
use Rattle.bor_store_sql.specs.Changing.{Any, in_turn}
use Rattle.bor_store_sql.proofs.items.insert_items.Given as goal

-- the rows of the items so far are put down
abbrev pub invariant-loop-item : goal.invariant-loop-item
invariant-loop-item g l = record {
  same_reference : l.tx.conn.ghost_name ≡ l.fn.tx.conn.ghost_name;
  counted : l.number ≡ l.item-index;
  within : l.number < 2 ^ 32;
  steps : StepsTo Any (in_turn (g.T.ListItem.with_rows l.at) 1 (take l.item-index l.items)) (state g.S.Store l.fn.tx.conn.now) (state g.S.Store l.tx.conn.now) (Ok (tt {0}));
}
