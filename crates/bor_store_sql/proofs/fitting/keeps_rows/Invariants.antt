use Rattle.std.proofs.Common.{◌≡◌, take}
use Rattle.sqlite.specs.Held.{state}
use Rattle.bor_register.specs.Register.{Register}
use Rattle.bor_store_sql.specs.Fitting.{IsKept, Pairwise}
use Rattle.bor_store_sql.specs.Found.{ReadsOnly}
use Rattle.bor_store_sql.specs.Shown.{IsClean, ShowsLists}
use Rattle.bor_store_sql.proofs.fitting.keeps_rows.Given as goal

-- the statements so far are kept, and what is shown is as it was
abbrev pub invariant-loop-index : goal.invariant-loop-index
invariant-loop-index g l = record {
  at : l.at ≡ record { agent = l.fn.filing.agent; filing = l.fn.filing.number; place = l.index };
  reads : ReadsOnly (state g.S.Store l.fn.conn) (state g.S.Store l.conn);
  fits : IsClean (state g.S.Store l.conn) → (r : Register) → ShowsLists r (state g.S.Store l.fn.conn) → Pairwise (IsKept l.fn.filing.agent l.fn.filing.number r.members) 1 (take l.index l.statements) (take l.index l.rows);
}
