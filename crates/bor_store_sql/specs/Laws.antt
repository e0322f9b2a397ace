-- Laws of what tables show.
use Rattle.std.specs.Prelude.{◌≡◌}
use Rattle.sqlite.specs.Effect.{Database}
use Rattle.sqlite.specs.Held.{Held, state}
use Rattle.sqlite.specs.Store.{Ghosts}
use Rattle.sqlite.specs.Tree.{Trees}
use Rattle.bor_register.specs.Register.{Register}
use Rattle.bor_store_sql.specs.Rows.Encoding.{contents}
use Rattle.bor_store_sql.specs.Rows.Stored.{IsStored}
use Rattle.bor_store_sql.specs.Shown.{Has, HasFirst, IsClean, ShowsIn, Stands, first_contents}
use Rattle.bor_store_sql.specs.Undated.{without_days}

-- A sound database has the rows of one register at most, so what the last commit left shows one
-- register at most.
abbrev pub TablesShowOneRegister : Type 0
TablesShowOneRegister =
    (r q : Register) (db : Database) → IsStored r → IsStored q → Has (contents r) db
    → Has (contents q) db → r ≡ q

-- Tables of version 1 tell all of a register but the days of its interests: two registers that may
-- be stored and whose rows they have are one without these days, so what the last commit left shows
-- one register at most but for them. And such tables have the rows of each that differs in them
-- alone.
pub record FirstTablesTellAllButDays : Type 0 where
  pub one : (r q : Register) (db : Database) → IsStored r → IsStored q
      → HasFirst (first_contents r) db → HasFirst (first_contents q) db
      → without_days r ≡ without_days q
  pub each : (r q : Register) (db : Database) → HasFirst (first_contents r) db
      → without_days r ≡ without_days q → HasFirst (first_contents q) db

-- A stop of a connection that is clean and shows a register leaves for the next one to open the
-- files that register and nothing else: what was answered lasts.
abbrev pub OpenTablesLast : {S : Type 0} → Ghosts S → Type 0
OpenTablesLast {S} g =
    (h : Held S) → IsClean (state g h) → (r : Register) → ShowsIn r (state g h) → (trees : Trees)
    → (state g h).may_leave trees → Stands r trees
