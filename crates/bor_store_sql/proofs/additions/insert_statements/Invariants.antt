use Rattle.std.proofs.Common.{◌≡◌, ◌<◌, ◌^◌, Ok, take, All}
use Rattle.sqlite.specs.Held.{state}
use Rattle.bor_store_sql.specs.Fitting.{standing}
use Rattle.bor_store_sql.specs.Rows.Stored.{IsCounted}
use Rattle.bor_store_sql.specs.Changing.{Any, in_turn, with_one_placed}
use Rattle.bor_store_sql.specs.Shown.{StepsTo}
use Rattle.bor_store_sql.proofs.additions.insert_statements.Given as goal

-- the statements so far are put down
abbrev pub invariant-loop-statement : goal.invariant-loop-statement
invariant-loop-statement g l = record {
  same_reference : l.tx.conn.ghost_name ≡ l.fn.tx.conn.ghost_name;
  at : l.at ≡ record { agent = l.fn.filing.agent; filing = l.fn.filing.number; place = l.statement-index };
  within : l.at.place < 2 ^ 32;
  steps : StepsTo Any (in_turn (λ place s. with_one_placed (standing l.fn.filing.agent l.fn.filing.number place s)) 1 (take l.statement-index l.statements)) (state g.S.Store l.fn.tx.conn.now) (state g.S.Store l.tx.conn.now) (Ok (tt {0}));
  each : All IsCounted (take l.statement-index l.statements);
}
