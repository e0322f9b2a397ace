use Rattle.std.proofs.Common.{◌≡◌, Result, drop, map}
use Rattle.sqlite.specs.Held.{Held}
use Rattle.sqlite.specs.Values.{bound}
use Rattle.sqlite.specs.declared.error.Error.{Error}
use Rattle.bor_store_sql.specs.Ran.{RanInTurn}
use Rattle.bor_store_sql.proofs.running.run_each.Given as goal

-- what is run of the texts that are left was run of all
abbrev pub invariant-loop-sql : goal.invariant-loop-sql
invariant-loop-sql g l = record {
  same_reference : l.tx.conn.ghost_name ≡ l.fn.tx.conn.ghost_name;
  on : (new : Held g.row.S.Denot) (result : Result (Unit {0}) Error) → RanInTurn g.S.Store (map (λ x. x.now) (drop l.sql-index l.texts)) (bound l.params) l.tx.conn.now new result → RanInTurn g.S.Store (map (λ x. x.now) l.texts) (bound l.params) l.fn.tx.conn.now new result;
}
