use Rattle.std.proofs.Common.{take}
use Rattle.sqlite.specs.Held.{state}
use Rattle.bor_register.specs.Register.{Register}
use Rattle.bor_store_sql.specs.Found.{ReadsOnly}
use Rattle.bor_store_sql.specs.Shown.{IsClean, ShowsLists}
use Rattle.bor_store.specs.Migrating.{LinesSay}
use Rattle.bor_store.proofs.files.gather.Given as goal

-- those so far are gathered, and what is shown is as it was
abbrev pub invariant-loop-line : goal.invariant-loop-line
invariant-loop-line g l = record {
  reads : ReadsOnly (state g.S.Store l.fn.conn) (state g.S.Store l.conn);
  gathered : IsClean (state g.S.Store l.conn) → (r : Register) → ShowsLists r (state g.S.Store l.fn.conn) → LinesSay r.members (take l.line-index l.lines) l.days.items;
}
