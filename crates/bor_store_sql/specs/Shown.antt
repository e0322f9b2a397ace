-- The register that a connection shows.
use Rattle.std.specs.Prelude.{◌≡◌, ◌⊎◌, [], ◌∷◌, false, IsTrue, OnErr, OnOk, Result}
use Rattle.sqlite.specs.Effect.{Database, IsDatabase}
use Rattle.sqlite.specs.Held.{Held, state}
use Rattle.sqlite.specs.Schema.{Schema}
use Rattle.sqlite.specs.State.{State, HasCleanDisk}
use Rattle.sqlite.specs.Store.{Ghosts}
use Rattle.sqlite.specs.Tree.{Trees}
use Rattle.sqlite.specs.declared.error.Error.{Error}
use Rattle.bor_register.specs.Register.{Register}
use Rattle.bor_store_sql.specs.Texts.Tables.{first_schema, keep_schema}
use Rattle.bor_store_sql.specs.Kept.{Keeps}
use Rattle.bor_store_sql.specs.Rows.Encoding.{Contents, contents, first_version, versioned_columns}
use Rattle.bor_store_sql.specs.Rows.Placed.{register_row}
use Rattle.bor_store_sql.specs.Rows.Stored.{IsStored}
use Rattle.bor_store_sql.specs.Ran.{MovesTo}

-- the database is sound, and has the seven tables with these rows
pub record Has (t : Contents) (db : Database) : Type 0 where
  pub sound : IsDatabase db
  pub schema : db.schema ≡ keep_schema
  pub register : Keeps t.register (db.trees 0)
  pub agents : Keeps t.agents (db.trees 2)
  pub filings : Keeps t.filings (db.trees 5)
  pub statements : Keeps t.statements (db.trees 8)
  pub interests : Keeps t.interests (db.trees 11)
  pub identifiers : Keeps t.identifiers (db.trees 13)
  pub periods : Keeps t.periods (db.trees 19)

abbrev pub IsClean : State → Type 0
IsClean s = HasCleanDisk s × IsTrue s.is_open

-- where the disk has returned what was written, the connection is open
abbrev pub IsUp : State → Type 0
IsUp s = HasCleanDisk s → IsTrue s.is_open

-- where the disk has returned what was written, a connection that was open is open
abbrev pub StaysUp : State → State → Type 0
StaysUp old new = HasCleanDisk new → IsTrue old.is_open → IsTrue new.is_open

-- the state that the last commit left is the register
pub record ShowsIn (r : Register) (s : State) : Type 0 where
  pub has : Has (contents r) s.committed
  pub stored : IsStored r

-- these trees are a sound database of the register's tables, with its rows
pub record Stands (r : Register) (trees : Trees) : Type 0 where
  pub has : Has (contents r) (record { schema = keep_schema; trees = trees })
  pub stored : IsStored r

-- A stop after a change, whether it went well or failed, leaves for the next one to open the files
-- what a stop before it might have left; or, where the connection was clean before, trees of this
-- kind. It is said of a disk that has returned what was written.
abbrev pub LeavesAtMost : (Trees → Type 0) → State → State → Type 0
LeavesAtMost Made old new =
    HasCleanDisk new → (trees : Trees) → new.may_leave trees
    → old.may_leave trees ⊎ (IsClean old × Made trees)

-- A change in a transaction of its own. A transaction is open afterwards just where one was before,
-- and then nothing went well; a disk that has returned what was written had done so before; where
-- all went well the connection is open, and a failure leaves what the last commit left.
pub record Commits {X E : Type 0} (old new : State) (result : Result X E) : Type 0 where
  pub mode : new.in_transaction ≡ old.in_transaction
  pub settled : OnOk result (old.in_transaction ≡ false)
  pub clean : HasCleanDisk new → HasCleanDisk old
  pub up : OnOk result (IsUp new)
  pub began : IsClean new → IsClean old
  pub kept : IsClean new → OnErr result (new.committed ≡ old.committed)

-- Such a change of a register that is shown in this way and that the change fits. Where all went
-- well the changed one is shown, and a stop leaves it, or what a stop before might have left.
pub record AltersTo (Shows : Register → State → Type 0) (Fits : Register → Type 0)
    (change : Register → Register) (old new : State) (result : Result (Unit {0}) Error) : Type 0
  where
    pub commits : Commits old new result
    pub made : IsClean new → (r : Register) → Shows r old → Fits r
        → OnOk result (ShowsIn (change r) new)
    pub stops : LeavesAtMost
        (λ trees. (r : Register) → Shows r old → Fits r → Stands (change r) trees) old new

-- the change fits each register
abbrev pub Always : Register → Type 0
Always r = Unit {0}

-- the same of a connection
abbrev pub Alters : {S : Type 0} → Ghosts S → Held S → Held S → Result (Unit {0}) Error
    → (Register → Type 0) → (Register → Register) → Type 0
Alters g old new result Fits change =
    AltersTo ShowsIn Fits change (state g old) (state g new) result

-- tables that have rows which the change fits have the changed rows
abbrev pub ChangesContents : (Contents → Type 0) → (Contents → Contents) → Database → Database
    → Type 0
ChangesContents fits change old new = (t : Contents) → Has t old → fits t → Has (change t) new

-- statements of a transaction make this change
abbrev pub StepsTo : (Contents → Type 0) → (Contents → Contents) → State → State
    → Result (Unit {0}) Error → Type 0
StepsTo fits change old new result = MovesTo (ChangesContents fits change) old new result

-- the same of a connection
abbrev pub Steps : {S : Type 0} → Ghosts S → Held S → Held S → Result (Unit {0}) Error
    → (Contents → Type 0) → (Contents → Contents) → Type 0
Steps g old new result fits change = StepsTo fits change (state g old) (state g new) result

-- ---- version 1

-- the database has the six tables of version 1 with these rows
pub record HasFirst (t : Contents) (db : Database) : Type 0 where
  pub schema : db.schema ≡ first_schema
  pub register : Keeps t.register (db.trees 0)
  pub agents : Keeps t.agents (db.trees 2)
  pub filings : Keeps t.filings (db.trees 5)
  pub statements : Keeps t.statements (db.trees 8)
  pub interests : Keeps t.interests (db.trees 11)
  pub identifiers : Keeps t.identifiers (db.trees 13)

-- the rows of the tables of version 1 for a register: all but the days of interests
abbrev pub first_contents : Register → Contents
first_contents r =
    record (contents r)
    { register = versioned_columns first_version (register_row r) ∷ []; periods = [] }

-- the state that the last commit left is the register in version 1
pub record ShowsFirst (r : Register) (s : State) : Type 0 where
  pub has : HasFirst (first_contents r) s.committed
  pub stored : IsStored r

-- ---- either version

-- the schema of a version
abbrev pub IsOfVersion : Schema → Type 0
IsOfVersion schema = (schema ≡ first_schema) ⊎ (schema ≡ keep_schema)

-- the database has the lists that are alike in both versions: all but the version's row and the
-- days of interests
pub record HasLists (t : Contents) (db : Database) : Type 0 where
  pub schema : IsOfVersion db.schema
  pub agents : Keeps t.agents (db.trees 2)
  pub filings : Keeps t.filings (db.trees 5)
  pub statements : Keeps t.statements (db.trees 8)
  pub interests : Keeps t.interests (db.trees 11)
  pub identifiers : Keeps t.identifiers (db.trees 13)

-- the state that the last commit left has the register's lists, in whichever version
pub record ShowsLists (r : Register) (s : State) : Type 0 where
  pub has : HasLists (contents r) s.committed
  pub stored : IsStored r
